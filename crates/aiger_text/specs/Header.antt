-- The header of an AIGER text, `aag M I L O A`.
use Rattle.std.specs.Prelude.{ℕ, Bool, ◌==◌, ◌&&◌, ◌||◌, nat_lt, if◌then◌else◌, List, [], ◌∷◌, length, Option, None, Some, codes, bytes_eq, is_some}
use Rattle.std.specs.List.{list_all, slice_split, before_first, after_first}
use Rattle.pattern_reading.specs.Numbers.{◌>>=◌, number_in}
use Rattle.aiger_text.specs.declared.section.Counts.{Counts}
use Rattle.aiger_text.specs.declared.fault.AigFaultKind.{AigFaultKind}
use Rattle.aiger_text.specs.declared.fault.AigFaultKind.TheVariants.{BadHeader, Unsupported}

-- Single spaces part the fields: a field is what stands before the first space, between two spaces,
-- or after the last.
abbrev pub is_separator : ℕ → Bool
is_separator b = b == 32

abbrev pub header_fields : List ℕ → List (List ℕ)
header_fields bytes = slice_split is_separator bytes

abbrev pub is_number : List ℕ → Bool
is_number field = is_some (number_in field)

-- the first word of a line, and below it the fields after that word
abbrev pub leading_field : List ℕ → List ℕ
leading_field bytes = before_first is_separator bytes

abbrev pub later_fields : List ℕ → List (List ℕ)
later_fields bytes = header_fields (after_first is_separator bytes)

-- the counts, if the fields are five numbers
abbrev pub counts_of_fields : List (List ℕ) → Option Counts
counts_of_fields (m ∷ inputs ∷ latches ∷ outputs ∷ ands ∷ []) = do
  greatest ← number_in m
  i ← number_in inputs
  l ← number_in latches
  o ← number_in outputs
  a ← number_in ands
  Some (record { m = greatest; inputs = i; latches = l; outputs = o; ands = a })
counts_of_fields _ = None

-- the numbers of a header, if the bytes are one
abbrev pub counts_in : List ℕ → Option Counts
counts_in bytes =
    if bytes_eq (leading_field bytes) (codes "aag") then counts_of_fields (later_fields bytes)
    else None

-- the bytes are the header of a text in binary, or of a text with sections that are not read here
abbrev pub is_unsupported : List ℕ → Bool
is_unsupported bytes =
    bytes_eq (leading_field bytes) (codes "aig")
    || (bytes_eq (leading_field bytes) (codes "aag") && nat_lt 5 (length (later_fields bytes))
    && list_all is_number (later_fields bytes))

-- the fault of bytes that are no header
abbrev pub header_fault : List ℕ → AigFaultKind
header_fault bytes = if is_unsupported bytes then Unsupported else BadHeader
