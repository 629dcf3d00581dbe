-- What instructions do to bits on lanes.
use Rattle.std.specs.Prelude.{ℕ, ◌+◌, ◌<◌, ◌==◌, nat_lt, Bool, true, false, ◌&&◌, ◌||◌, not, List, [], ◌∷◌, slice_index_or, slice_set, fold, find, Option, ◌⊎◌}
use Rattle.std.specs.List.{list_all}
use Rattle.lane_core.specs.declared.instr.Instr.{Instr}
use Rattle.lane_core.specs.declared.instr.Instr.TheVariants.{Swap, Fork, Xor, Or, AndNot}

-- the upper of the two lanes of an instruction; the other is the next one
abbrev pub lane_of : Instr → ℕ
lane_of (Swap i) = i
lane_of (Fork i) = i
lane_of (Xor i) = i
lane_of (Or i) = i
lane_of (AndNot i) = i

-- what an instruction puts on its upper lane, if it finds a there and b below
abbrev pub upper_bit : Instr → Bool → Bool → Bool
upper_bit (Swap i) a b = b
upper_bit (Fork i) a b = a
upper_bit (Xor i) a b = (a || b) && not (a && b)
upper_bit (Or i) a b = a || b
upper_bit (AndNot i) a b = a && not b

-- what an instruction puts on its lower lane, if it finds a above and b there
abbrev pub lower_bit : Instr → Bool → Bool → Bool
lower_bit (Swap i) a b = a
lower_bit (Fork i) a b = a
lower_bit (Xor i) a b = false
lower_bit (Or i) a b = false
lower_bit (AndNot i) a b = false

-- the bit on a lane
abbrev pub bit_on : List Bool → ℕ → Bool
bit_on bits lane = slice_index_or bits lane false

-- the bits after an instruction: all other lanes keep theirs
abbrev pub after_instr : List Bool → Instr → List Bool
after_instr bits instr =
    let a = bit_on bits (lane_of instr) in
    let b = bit_on bits (lane_of instr + 1) in
    slice_set (slice_set bits (lane_of instr) (upper_bit instr a b)) (lane_of instr + 1)
    (lower_bit instr a b)

-- the bits after instructions that are done in order
abbrev pub after_instrs : List Instr → List Bool → List Bool
after_instrs instrs bits = fold after_instr bits instrs

-- both lanes of the instruction are among the first so many
abbrev pub IsOnLanes : ℕ → Instr → Type 0
IsOnLanes lanes instr = lane_of instr + 1 < lanes

-- the two instructions share no lane
abbrev pub AreApart : Instr → Instr → Type 0
AreApart i j = (lane_of i + 1 < lane_of j) ⊎ (lane_of j + 1 < lane_of i)

-- the lanes of the second instruction lie below those of the first
abbrev pub is_above : Instr → Instr → Bool
is_above i j = nat_lt (lane_of i + 1) (lane_of j)

-- the instructions are sorted by lane, and no two share a lane
abbrev pub are_sorted_apart : List Instr → Bool
are_sorted_apart [] = true
are_sorted_apart (i ∷ rest) = list_all (is_above i) rest && are_sorted_apart rest

-- the instruction works on the lane
abbrev pub is_on : ℕ → Instr → Bool
is_on lane instr = lane_of instr == lane || lane_of instr + 1 == lane

-- the instruction that works on a lane
abbrev pub instr_on : List Instr → ℕ → Option Instr
instr_on instrs lane = find (is_on lane) instrs
