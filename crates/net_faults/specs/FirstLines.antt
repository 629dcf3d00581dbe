-- The earliest line of each name of some words.
use Rattle.std.specs.Prelude.{◌≡◌, ℕ, Bool, true, false, nat_le, nat_lt, List, length, slice_index_or, Option, Some, None}
use Rattle.std.specs.List.{list_any}
use Rattle.std.specs.Option.{option_map_or}
use Rattle.netlist_core.specs.declared.model.Port.{Port}
use Rattle.netlist_core.specs.Names.{Name, is_named}
use Rattle.netlist_rules.specs.Drivers.{same_name_before, same_name_up_to}
use Rattle.net_faults.specs.declared.numbering.Numbering.{Numbering}
use Rattle.net_faults.specs.declared.first_lines.FirstLines.{FirstLines}
use Rattle.net_faults.specs.Numbering.{count_of, name_number}

-- so many lines, none of them known
abbrev pub HasNoLine : ℕ → List (Option ℕ) → Type 0
HasNoLine count lines = (length lines ≡ count) × ((k : ℕ) → slice_index_or lines k None ≡ None)

-- the line that is kept at a number
abbrev pub line_in : FirstLines → ℕ → Option ℕ
line_in lines number = slice_index_or lines.lines.items number None

-- whether a number has a line that passes
abbrev pub has_line : (ℕ → Bool) → FirstLines → ℕ → Bool
has_line test lines number = option_map_or test (line_in lines number) false

-- These lines tell whether a name stands among the words on a line before a port's, on a line up to
-- it, or at all.
pub record AreFirstLines (names : Numbering) (lines : FirstLines) (ports : List Port) : Type 0 where
  pub room : length lines.lines.items ≡ count_of names
  pub before : (p : Port) (number : ℕ) → name_number names p.name ≡ Some number
      → has_line (λ line. nat_lt line p.line) lines number ≡ list_any (same_name_before p) ports
  pub up_to : (p : Port) (number : ℕ) → name_number names p.name ≡ Some number
      → has_line (λ line. nat_le line p.line) lines number ≡ list_any (same_name_up_to p) ports
  pub named : (name : Name) (number : ℕ) → name_number names name ≡ Some number
      → has_line (λ line. true) lines number ≡ is_named ports name
  pub unnumbered : (name : Name) → name_number names name ≡ None → is_named ports name ≡ false
