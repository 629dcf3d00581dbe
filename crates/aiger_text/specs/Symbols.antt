-- The symbol lines of an AIGER text, which name inputs, latches and outputs.
use Rattle.std.specs.Prelude.{ℕ, Bool, true, false, not, ◌==◌, ◌&&◌, ◌||◌, nat_lt, if◌then◌else◌, List, [], ◌∷◌, ◌++◌, map, filter_map, take_while, Option, Some, None, option_map}
use Rattle.std.specs.List.{list_any, cons_option, before_first, after_first}
use Rattle.std.specs.Option.{option_to_list}
use Rattle.std.specs.Str.{byte}
use Rattle.lists.specs.Bytes.{non_empty}
use Rattle.pattern_reading.specs.Lines.{Line, begins_with}
use Rattle.pattern_reading.specs.Numbers.{◌>>=◌, number_in}
use Rattle.aiger_text.specs.declared.section.Counts.{Counts}
use Rattle.aiger_text.specs.declared.section.SymbolKind.{SymbolKind}
use Rattle.aiger_text.specs.declared.section.SymbolKind.TheVariants.{Input, Latch, Output}
use Rattle.aiger_text.specs.declared.fault.AigFault.{AigFault}
use Rattle.aiger_text.specs.declared.fault.AigFaultKind.{AigFaultKind}
use Rattle.aiger_text.specs.declared.fault.AigFaultKind.TheVariants.{BadSymbol}
use Rattle.aiger_text.specs.Header.{is_separator}
use Rattle.aiger_text.specs.EntryFaults.{aig_fault_on}

-- a name for an input, a latch or an output, by its number, from 0
pub record Symbol : Type 0 where
  pub kind : SymbolKind
  pub place : ℕ
  pub name : List ℕ

abbrev pub symbol_kind : ℕ → Option SymbolKind
symbol_kind letter =
    if letter == byte "i" then Some Input
    else if letter == byte "l" then Some Latch
    else if letter == byte "o" then Some Output
    else None

-- the symbol of a line `i<n> name`, `l<n> name` or `o<n> name`: the name is all that follows the
-- first space, and is not empty
abbrev pub symbol_in : List ℕ → Option Symbol
symbol_in [] = None
symbol_in (letter ∷ bytes) = do
  kind ← symbol_kind letter
  place ← number_in (before_first is_separator bytes)
  name ← non_empty (after_first is_separator bytes)
  Some (record { kind = kind; place = place; name = name })

-- how many inputs, latches or outputs there are
abbrev pub count_of_kind : Counts → SymbolKind → ℕ
count_of_kind c Input = c.inputs
count_of_kind c Latch = c.latches
count_of_kind c Output = c.outputs

abbrev pub is_same_kind : SymbolKind → SymbolKind → Bool
is_same_kind Input Input = true
is_same_kind Latch Latch = true
is_same_kind Output Output = true
is_same_kind _ _ = false

-- the symbol names the input, latch or output of that number
abbrev pub is_for : SymbolKind → ℕ → Symbol → Bool
is_for kind place symbol = is_same_kind kind symbol.kind && (symbol.place == place)

-- a symbol line: its number, and what it says, if it has the form
pub record SymbolLine : Type 0 where
  pub number : ℕ
  pub symbol : Option Symbol

abbrev pub symbol_line : Line → SymbolLine
symbol_line line = record { number = line.number; symbol = symbol_in line.bytes }

-- the line does not begin with `c`, which ends the symbol lines
abbrev pub is_symbol_line : Line → Bool
is_symbol_line line = not (begins_with (byte "c") line.bytes)

abbrev pub symbol_lines : List Line → List SymbolLine
symbol_lines lines = map symbol_line (take_while is_symbol_line lines)

abbrev pub symbols_of : List SymbolLine → List Symbol
symbols_of lines = filter_map (λ line. line.symbol) lines

-- the symbol is for what does not exist, or for what has a symbol in an earlier line
abbrev pub is_bad_symbol : Counts → List Symbol → Symbol → Bool
is_bad_symbol c before symbol =
    not (nat_lt symbol.place (count_of_kind c symbol.kind))
    || list_any (is_for symbol.kind symbol.place) before

abbrev pub symbol_fault : Counts → List Symbol → Option Symbol → Option AigFaultKind
symbol_fault c before None = Some BadSymbol
symbol_fault c before (Some symbol) = if is_bad_symbol c before symbol then Some BadSymbol else None

-- the faults of these lines, in order, if lines with these symbols stand before them
abbrev pub symbol_faults_after : Counts → List Symbol → List SymbolLine → List AigFault
symbol_faults_after c before [] = []
symbol_faults_after c before (line ∷ lines) =
    cons_option (option_map (aig_fault_on line.number) (symbol_fault c before line.symbol))
    (symbol_faults_after c (before ++ option_to_list line.symbol) lines)
