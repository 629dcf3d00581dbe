-- For one context, `lift` accepts what `compile` writes, if its box is within the limit and no name
-- of a port ends with `\`. What `eval` prints of what `lift` writes, `simulate` prints of the pattern.
use Rattle.std.specs.Prelude.{ℕ, ◌≡◌, ◌==◌, ◌-◌, Bool, false, List, ◌++◌, length, get_or}
use Rattle.std.specs.List.{list_any}
use Rattle.std.specs.Str.{byte}
use Rattle.ww_rule.specs.Grid.{Grid}
use Rattle.pattern_reading.specs.declared.ports.Ports.{Ports}
use Rattle.pattern_reading.specs.Ports.{names_of}
use Rattle.pattern_reading.specs.Pattern.{ReadsWithinLimit}
use Rattle.pattern_reading.specs.PortTable.{ReadsAsPorts}
use Rattle.tile_match.specs.Names.{has_bad_name}
use Rattle.command_words.specs.Shapes.{compile, eval, lift, simulate}
use Rattle.blifww_tool.specs.Commands.{Accepts, Prints}

-- the last byte of some name of a port is `\`
abbrev pub ends_with_backslash : List ℕ → Bool
ends_with_backslash name = get_or name (length name - 1) 0 == byte "\\"

abbrev pub has_backslash : Ports → Bool
has_backslash ports =
    list_any ends_with_backslash (names_of ports.ins ++ names_of ports.outs)

-- the table of what `compile` writes has a bad name exactly if a name ends with `\`
abbrev pub CompiledNamesAreGood : Type 0
CompiledNamesAreGood =
    (contexts : ℕ) (starts : List (List ℕ)) (netlist text : List ℕ)
    → Prints (compile contexts starts) netlist text
    → (width height : ℕ) (ports : Ports) → ReadsAsPorts text width height ports
    → has_bad_name ports ≡ has_backslash ports

-- `lift` accepts each text that `compile` writes for one context, whatever the start words are, if
-- its box is within the limit of what is read and no name of a port ends with `\`
abbrev pub CompiledAreLifted : Type 0
CompiledAreLifted =
    (starts : List (List ℕ)) (netlist text : List ℕ) → Prints (compile 1 starts) netlist text
    → (grid : Grid) (ports : Ports) → ReadsWithinLimit text grid
    → ReadsAsPorts text grid.width grid.height ports → has_backslash ports ≡ false
    → Accepts lift text

-- `simulate` prints of a circuit's text what `eval` prints of the netlist that `lift` writes of it,
-- under the same words
abbrev pub LiftedPrintAlike : Type 0
LiftedPrintAlike =
    (text netlist : List ℕ) → Prints lift text netlist
    → (cycles : ℕ) (words : List (List ℕ)) (shown evaluated : List ℕ)
    → Prints (simulate cycles words) text shown → Prints (eval cycles words) netlist evaluated
    → shown ≡ evaluated

-- `lift` writes one netlist of a text
abbrev pub LiftedInOneWay : Type 0
LiftedInOneWay = (text a b : List ℕ) → Prints lift text a → Prints lift text b → a ≡ b
