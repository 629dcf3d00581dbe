-- Where the bits of lanes come from, when one lane's bit is brought to another lane and the others
-- keep their order.
use Rattle.std.specs.Prelude.{ℕ, ◌+◌, ◌-◌, ◌==◌, nat_lt, nat_le, ◌&&◌, if◌then◌else◌, ◌≡◌, List, Bool, length, All}
use Rattle.lane_core.specs.declared.instr.Instr.{Instr}
use Rattle.lane_core.specs.declared.instr.Instr.TheVariants.{Swap}
use Rattle.lane_core.specs.Instrs.{bit_on, after_instrs, lane_of, IsOnLanes}

-- the lane from which a lane's bit comes: `to` gets the bit of `from`, and the lanes between move
-- on by one
abbrev pub brought : ℕ → ℕ → ℕ → ℕ
brought from to lane =
    if lane == to then from
    else if nat_le from lane && nat_lt lane to then lane + 1
    else if nat_lt to lane && nat_le lane from then lane - 1
    else lane

-- the lane from which a lane's bit comes, when two neighbours are exchanged
abbrev pub swapped : ℕ → ℕ → ℕ
swapped at lane = if lane == at then at + 1 else if lane == at + 1 then at else lane

-- how many steps lead from one lane to the other
abbrev pub distance : ℕ → ℕ → ℕ
distance from to = (from - to) + (to - from)

abbrev pub IsSwap : Instr → Type 0
IsSwap instr = instr ≡ Swap (lane_of instr)

-- on so many lanes these swaps bring the bit of lane `from` to lane `to`, and the other bits keep
-- their order
pub record Brings (lanes from to : ℕ) (instrs : List Instr) : Type 0 where
  pub count : length instrs ≡ distance from to
  pub swaps : All IsSwap instrs
  pub on_lanes : All (IsOnLanes lanes) instrs
  pub long : (bits : List Bool) → length (after_instrs instrs bits) ≡ length bits
  pub bits : (bits : List Bool) → length bits ≡ lanes → (lane : ℕ)
      → bit_on (after_instrs instrs bits) lane ≡ bit_on bits (brought from to lane)
