-- The bits on lanes where they enter the instructions of a program or the columns of a plan, and
-- where they leave them.
use Rattle.std.specs.Prelude.{ℕ, zero, suc, ◌+◌, ◌-◌, ◌==◌, Bool, false, ◌&&◌, ◌||◌, List, [], ◌∷◌, ◌++◌, map, take, drop, reverse, Option, Some, None}
use Rattle.std.specs.List.{range_with_len}
use Rattle.lane_core.specs.declared.instr.Column.{Column}
use Rattle.lane_core.specs.Columns.{after_columns}

-- the lane on which the first of so many loops enters; the others enter on the lanes below it. It
-- is also the number of lanes that no loop enters.
abbrev pub first_loop_lane : ℕ → ℕ → ℕ
first_loop_lane lanes loops = lanes - loops

-- the bit on a lane, if these lanes have the bits of a row, in order, and all others have 0
abbrev pub lane_bit : List ℕ → List Bool → ℕ → Bool
lane_bit [] bits lane = false
lane_bit (first ∷ lanes) [] lane = false
lane_bit (first ∷ lanes) (bit ∷ bits) lane = (first == lane && bit) || lane_bit lanes bits lane

-- the bits on all of the first lanes, which no loop enters, if a row's bits are on the lanes `ins`
abbrev pub row_bits : ℕ → List ℕ → List Bool → List Bool
row_bits free ins row = map (lane_bit ins row) (range_with_len 0 free)

-- the bits on all lanes when a row and the bits of the loops enter
abbrev pub entry_bits : ℕ → List ℕ → List Bool → List Bool → List Bool
entry_bits free ins row loops = row_bits free ins row ++ loops

-- the bits with which the loops leave, if all lanes leave with these bits: the first loop leaves on
-- the lowest lane
abbrev pub leaving : ℕ → List Bool → List Bool
leaving free bits = reverse (drop free bits)

-- the bits at the start, or after the step of this number; `after` tells what steps make of bits
abbrev pub bits_after : {Step : Type 0} → (List Step → List Bool → List Bool) → List Step → Option ℕ
    → List Bool → List Bool
bits_after after steps None bits = bits
bits_after after steps (Some step) bits = after (take (step + 1) steps) bits

-- the bits that enter columns in a cycle, given the bits of each cycle on the first lanes and the
-- bits with which the loops start: after the first cycle the loops bring what left the columns in
-- the cycle before
abbrev pub entering_bits : ℕ → List Column → (ℕ → List Bool) → List Bool → ℕ → List Bool
entering_bits free columns inputs starts zero = inputs zero ++ starts
entering_bits free columns inputs starts (suc t) =
    inputs (suc t) ++ leaving free (after_columns columns
    (entering_bits free columns inputs starts t))
