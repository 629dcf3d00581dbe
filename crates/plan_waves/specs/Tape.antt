-- What is lit in a plan with a tape, by what is lit in the plan without one that rows of bits
-- drive.
use Rattle.std.specs.Prelude.{pos, ℕ, ◌+◌, ◌-◌, ◌*◌, nat_lt, Bool, false, ◌&&◌, if◌then◌else◌, List}
use Rattle.ww_rule.specs.Wireworld.{Due}
use Rattle.ww_rule.specs.Injections.{due_of_streams}
use Rattle.tiling.specs.Tiling.{Lit}
use Rattle.tiling.specs.Tiling.Edge.{Beside, Above}
use Rattle.lane_core.specs.declared.plan.Plan.{Plan}
use Rattle.lane_core.specs.Plans.{left_of, row_of, period_of, input_cells}
use Rattle.lane_core.specs.Entering.{first_loop_lane}

-- the drive of rows of input bits: a head at the cell of an input in each cycle in which its bit is
-- 1
abbrev pub drive_of_rows : Plan → List (List Bool) → Due
drive_of_rows plan rows = due_of_streams (period_of plan) (input_cells plan) rows

-- whether a head is due at a generation at the entry of a lane, in the plan without a tape
abbrev pub is_due_on : Plan → Due → ℕ → ℕ → Bool
is_due_on plan due generation lane = due generation (pos (left_of plan 0)) (pos (row_of lane))

-- whether a block lies before the body, on a lane that no loop enters, if the plan stands `shift`
-- tile columns further east
abbrev pub is_before_body : Plan → (shift column lane : ℕ) → Bool
is_before_body plan shift column lane =
    nat_lt column (shift + plan.latches) && nat_lt lane (first_loop_lane plan.lanes plan.latches)

-- The edges of a plan with a tape at each macro time, by those of the driven plan. On lanes that no
-- loop enters, the edge so many tiles before the body is lit exactly if a head is due as many macro
-- steps later; all other edges are those of the plan, further east.
abbrev pub taped_edges : Plan → (shift : ℕ) → Due → (ℕ → Lit) → ℕ → Lit
taped_edges plan shift due edges m (Beside column lane) =
    if is_before_body plan shift column lane
    then is_due_on plan due (32 * (m + (shift + plan.latches - column))) lane
    else if nat_lt column shift then false
    else edges m (Beside (column - shift) lane)
taped_edges plan shift due edges m (Above column lane) =
    if nat_lt column shift then false else edges m (Above (column - shift) lane)
