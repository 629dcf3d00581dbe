-- What the layout of every plan keeps.
use Rattle.std.specs.Prelude.{ℕ, ◌≡◌, []}
use Rattle.tile_core.specs.declared.kind.Kind.{Kind}
use Rattle.tile_core.specs.Drawing.{Drawing}
use Rattle.tiling.specs.Matched.{IsMatched}
use Rattle.lane_core.specs.declared.plan.Plan.{Plan}
use Rattle.lane_core.specs.Plans.{IsAdmissible}
use Rattle.plan_layout.specs.Layout.{tiling_of}
use Rattle.plan_layout.specs.Planes.{start_plane}
use Rattle.plan_layout.specs.Starts.{start_edges}
use Rattle.plan_layout.specs.Tape.{taped_tiling, drawn_tiling, drawn_edges, drawn_plane}

-- the tiles of an admissible plan fit together
abbrev pub PlansFitTogether : Type 0
PlansFitTogether = (plan : Plan) → IsAdmissible plan → IsMatched (tiling_of plan)

-- the tiles of an admissible plan and those of a tape fit together, however long the tape is and
-- wherever the plan stands
abbrev pub TapesFitTogether : Type 0
TapesFitTogether =
    (plan : Plan) → IsAdmissible plan → (shift tiles : ℕ)
    → IsMatched (taped_tiling plan shift tiles)

-- the drawing of a plan is that of its tiles and starts alone
pub record IsDrawnBare (plan : Plan) : Type 0 where
  pub tiling : drawn_tiling plan ≡ tiling_of plan
  pub edges : drawn_edges plan ≡ start_edges plan
  pub plane : (library : Kind → Drawing) → drawn_plane library plan ≡ start_plane library plan

-- every plan without a tape is drawn from its tiles and starts alone
abbrev pub BarePlansAreMachines : Type 0
BarePlansAreMachines = (plan : Plan) → plan.tape ≡ [] → IsDrawnBare plan
