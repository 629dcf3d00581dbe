-- What a plan does from cycle to cycle: it is a machine whose state lies on the lanes of its loops.
-- Signals pass one tile in each macro step, so a cycle has as many macro steps as a loop has tiles.
use Rattle.std.specs.Prelude.{ℕ, ◌+◌, ◌*◌, ◌≤◌, ◌≡◌, Bool, List, length, map, take}
use Rattle.std.specs.List.{range_with_len}
use Rattle.tiling.specs.Tiling.{Lit}
use Rattle.tiling.specs.Tiling.Edge.{Beside}
use Rattle.lane_core.specs.declared.plan.Plan.{Plan}
use Rattle.lane_core.specs.Columns.{after_columns}
use Rattle.lane_core.specs.Plans.{IsAdmissible}
use Rattle.lane_core.specs.Entering.{first_loop_lane, entering_bits}
use Rattle.lane_core.specs.Tape.{cycle_tiles}
use Rattle.plan_waves.specs.Waves.{GoesOn, bits_at, loop_entry}

-- the bits that enter the body on the lanes that no loop enters, and those that enter it on the
-- lanes of loops
abbrev pub free_bits : Plan → Lit → List Bool
free_bits plan lit =
    map (λ lane. lit (Beside plan.latches lane))
    (range_with_len 0 (first_loop_lane plan.lanes plan.latches))

abbrev pub loop_bits : Plan → Lit → List Bool
loop_bits plan lit = map (λ loop. lit (loop_entry plan loop)) (range_with_len 0 plan.latches)

-- The bits at the entries of each column, in cycles that are counted from any macro time on, depend
-- only on the free entries when these cycles begin, and on the loops' entries at the first.
abbrev pub EdgesRunByCycles : Type 0
EdgesRunByCycles =
    (plan : Plan) → IsAdmissible plan → (edges : ℕ → Lit) → GoesOn plan edges → (first t c : ℕ)
    → c ≤ length plan.columns
    → bits_at plan c (edges (first + t * cycle_tiles plan + c))
    ≡ after_columns (take c plan.columns)
    (entering_bits (first_loop_lane plan.lanes plan.latches) plan.columns
    (λ i. free_bits plan (edges (first + i * cycle_tiles plan)))
    (loop_bits plan (edges first)) t)
