-- The VCD text of variables by their bits, cycle after cycle.
use Rattle.std.specs.Prelude.{ℕ, zero, suc, ◌+◌, ◌-◌, ◌/◌, ◌%◌, ◌==◌, Bool, ◌||◌, not, if◌then◌else◌, List, [], ◌∷◌, ◌++◌, length, map, flat_map, get_or}
use Rattle.std.specs.List.{range_with_len}
use Rattle.pattern_writing.specs.Writer.{ended_lines}
use Rattle.vcd_write.specs.Reading.{VcdVar, VcdValue, VcdBlock, VcdForm, form_lines}

-- variables by their references, and the bit of each in each cycle
pub record Waves : Type 0 where
  pub cycles : ℕ
  pub references : List (List ℕ)
  pub bit : ℕ → ℕ → Bool

-- the digits of a number in base 94, the least one first, as bytes from 33 on: at most one digit
-- more than the first number
abbrev pub digits_94 : ℕ → ℕ → List ℕ
digits_94 zero n = (33 + n % 94) ∷ []
digits_94 (suc more) n = (33 + n % 94) ∷ (if n / 94 == 0 then [] else digits_94 more (n / 94))

-- the id of a variable, by its number from 0
abbrev pub vcd_id : ℕ → List ℕ
vcd_id n = digits_94 n n

abbrev pub var_of : Waves → ℕ → VcdVar
var_of w n = record { id = vcd_id n; reference = get_or w.references n [] }

-- the two bits differ
abbrev pub are_other : Bool → Bool → Bool
are_other a b = if a then not b else b

-- a variable's bit is written in a cycle: in the first, and in each in which it differs from that
-- of the cycle before
abbrev pub is_written : Waves → ℕ → ℕ → Bool
is_written w cycle n = cycle == 0 || are_other (w.bit n cycle) (w.bit n (cycle - 1))

abbrev pub value_of : Waves → ℕ → ℕ → List VcdValue
value_of w cycle n =
    if is_written w cycle n then record { id = vcd_id n; bit = w.bit n cycle } ∷ [] else []

abbrev pub values_at : Waves → ℕ → List VcdValue
values_at w cycle = flat_map (value_of w cycle) (range_with_len 0 (length w.references))

abbrev pub block_of : Waves → ℕ → VcdBlock
block_of w cycle = record { time = cycle; values = values_at w cycle }

abbrev pub last_block : Waves → VcdBlock
last_block w = record { time = w.cycles; values = [] }

abbrev pub vcd_form : Waves → VcdForm
vcd_form w = record {
  vars = map (var_of w) (range_with_len 0 (length w.references));
  blocks = map (block_of w) (range_with_len 0 w.cycles) ++ last_block w ∷ [];
}

abbrev pub vcd_text : Waves → List ℕ
vcd_text w = ended_lines (form_lines (vcd_form w))
