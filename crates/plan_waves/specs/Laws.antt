-- How signals run through the body of a plan, and round its loops.
use Rattle.std.specs.Prelude.{pos, ℕ, suc, ◌+◌, ◌-◌, ◌*◌, ◌<◌, ◌≤◌, ◌≡◌, true, false, length, take, replicate}
use Rattle.ww_rule.specs.Wireworld.{Due}
use Rattle.tiling.specs.Tiling.{Edge, Lit}
use Rattle.tiling.specs.Tiling.Edge.{Beside}
use Rattle.tiling.specs.MacroStep.{macro_step}
use Rattle.tiling.specs.Steps.{DrivesEntries, driven_edges}
use Rattle.lane_core.specs.declared.plan.Plan.{Plan}
use Rattle.lane_core.specs.Plans.{IsAdmissible, left_of, row_of}
use Rattle.lane_core.specs.Instrs.{bit_on}
use Rattle.lane_core.specs.Columns.{after_columns}
use Rattle.lane_core.specs.Entering.{first_loop_lane}
use Rattle.plan_layout.specs.Layout.{tiling_of}
use Rattle.plan_waves.specs.Waves.{is_free_entry, GoesOn, IsDarkInside, bits_at, loop_exit, loop_entry, tiles_back, DrivesInputs}

-- if heads are injected at inputs, the tiling is driven at its free entries
abbrev pub InputsAreEntries : Type 0
InputsAreEntries =
    (plan : Plan) → IsAdmissible plan → (due : Due) → DrivesInputs plan due
    → DrivesEntries (tiling_of plan) due

-- if heads are injected at inputs, the edges of the driven tiling go on by macro steps
abbrev pub DrivenEdgesGoOn : Type 0
DrivenEdgesGoOn =
    (plan : Plan) (due : Due) → DrivesInputs plan due → (lit : Lit)
    → GoesOn plan (driven_edges (tiling_of plan) due lit)

-- no macro step lights a free entry
abbrev pub FreeEntriesGoDark : Type 0
FreeEntriesGoDark =
    (plan : Plan) → IsAdmissible plan → (lit : Lit) (edge : Edge) → is_free_entry plan edge ≡ true
    → macro_step (tiling_of plan) lit edge ≡ false

-- after the beginning a free entry is lit exactly if a head is injected in its cell
abbrev pub InputsEnter : Type 0
InputsEnter =
    (plan : Plan) → IsAdmissible plan → (due : Due) (lit : Lit) (m lane : ℕ)
    → lane < first_loop_lane plan.lanes plan.latches
    → driven_edges (tiling_of plan) due lit (suc m) (Beside plan.latches lane)
    ≡ due (32 * suc m) (pos (left_of plan 0)) (pos (row_of lane))

-- each macro time starts a wave: what enters the body goes through its columns, one column a macro
-- step
abbrev pub ColumnsPass : Type 0
ColumnsPass =
    (plan : Plan) → IsAdmissible plan → (edges : ℕ → Lit) → GoesOn plan edges → (m c : ℕ)
    → c ≤ length plan.columns
    → bits_at plan c (edges (m + c)) ≡ after_columns (take c plan.columns)
    (bits_at plan 0 (edges m))

-- what leaves the body on a loop's lane enters it again, one macro step later for each tile of its
-- way back
abbrev pub LoopsReturn : Type 0
LoopsReturn =
    (plan : Plan) → IsAdmissible plan → (edges : ℕ → Lit) → GoesOn plan edges → (m loop : ℕ)
    → loop < plan.latches
    → edges (m + tiles_back plan) (loop_entry plan loop) ≡ edges m (loop_exit plan loop)

-- what enters the body goes through all its columns and comes back on the loops' lanes, a period
-- later
abbrev pub LoopsComeRound : Type 0
LoopsComeRound =
    (plan : Plan) → IsAdmissible plan → (edges : ℕ → Lit) → GoesOn plan edges → (m loop : ℕ)
    → loop < plan.latches
    → edges (m + (length plan.columns + tiles_back plan)) (loop_entry plan loop)
    ≡ bit_on (after_columns plan.columns (bits_at plan 0 (edges m))) (plan.lanes - 1 - loop)

-- if the body is dark inside at first, it is dark until what enters it arrives; whether its entries
-- or edges on the way back are lit makes no difference
abbrev pub BodyBeginsDark : Type 0
BodyBeginsDark =
    (plan : Plan) → IsAdmissible plan → (edges : ℕ → Lit) → GoesOn plan edges
    → IsDarkInside plan (edges 0)
    → (m c : ℕ) → m < c → c ≤ length plan.columns
    → bits_at plan c (edges m) ≡ replicate plan.lanes false
