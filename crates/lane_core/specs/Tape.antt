-- The tape of a plan: bits of the inputs that lie before the body at generation 0 and run in by
-- themselves.
use Rattle.std.specs.Prelude.{ℕ, ◌+◌, ◌-◌, ◌*◌, ◌/◌, ◌%◌, ◌≤◌, ◌≡◌, ◌==◌, ◌⊎◌, Bool, false, ◌&&◌, List, [], map, length, slice_get, slice_index_or, unwrap_or, All}
use Rattle.std.specs.List.{range_with_len}
use Rattle.lane_core.specs.declared.plan.Plan.{Plan}
use Rattle.lane_core.specs.Entering.{lane_bit}
use Rattle.lane_core.specs.Times.{period_of}

-- how many bits the first of these lists has, and 0 if there is no list
abbrev pub cycles_of : List (List Bool) → ℕ
cycles_of lists = length (slice_index_or lists 0 [])

-- lists of bits of one length, which is from 1 to 4,096
pub record AreTapeLists (lists : List (List Bool)) : Type 0 where
  pub range : All (λ bits. (1 ≤ length bits) × (length bits ≤ 4096)) lists
  pub alike : All (λ bits. length bits ≡ cycles_of lists) lists

-- a plan has no tape, or one with a list for each input
pub record HasFittingTape (plan : Plan) : Type 0 where
  pub each_input : (plan.tape ≡ []) ⊎ (length plan.tape ≡ length plan.ins)
  pub lists : AreTapeLists plan.tape

-- the cycles for which a plan has bits on its tape
abbrev pub tape_cycles : Plan → ℕ
tape_cycles plan = cycles_of plan.tape

-- the bits of all inputs in a cycle: the tape, read across
abbrev pub tape_row : Plan → ℕ → List Bool
tape_row plan cycle = map (λ bits. unwrap_or (slice_get bits cycle) false) plan.tape

-- the bits of all inputs, with a row for each cycle
abbrev pub tape_rows : Plan → List (List Bool)
tape_rows plan = map (tape_row plan) (range_with_len 0 (tape_cycles plan))

-- the tiles that a signal goes through from cycle to cycle
abbrev pub cycle_tiles : Plan → ℕ
cycle_tiles plan = period_of plan / 32

-- the tiles of the tape on the lane of an input: from the electron of its last cycle to the body
abbrev pub tape_tiles : Plan → ℕ
tape_tiles plan = (tape_cycles plan - 1) * cycle_tiles plan

-- how many tile columns further east a plan is drawn, so that its tape has room: left of the body
-- there is a tile column for each loop
abbrev pub tape_shift : Plan → ℕ
tape_shift plan = tape_tiles plan - plan.latches

-- a cell, so many tile columns further east
abbrev pub moved_east : ℕ → ℕ × ℕ × ℕ → ℕ × ℕ × ℕ
moved_east columns cell = (32 * columns + cell.0, cell.1, cell.2)

-- whether the electron of a bit 1 lies on a lane at the edge so many tiles before the body: a bit
-- runs in when its cycle begins
abbrev pub tape_bit : Plan → (tiles lane : ℕ) → Bool
tape_bit plan tiles lane =
    tiles % cycle_tiles plan == 0 && lane_bit plan.ins
    (tape_row plan (tiles / cycle_tiles plan)) lane
