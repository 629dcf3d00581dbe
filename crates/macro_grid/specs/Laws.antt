-- What the plane of a plan's drawing does in time, in every library of tiles that keep the timing
-- law.
use Rattle.tile_core.specs.declared.kind.Kind.{Kind}
use Rattle.tile_core.specs.Drawing.{Drawing}
use Rattle.tiling.specs.Tiling.{Lit}
use Rattle.tiling.specs.Steps.{KeepsLaw, StepsByMacro}
use Rattle.lane_core.specs.declared.plan.Plan.{Plan}
use Rattle.lane_core.specs.Plans.{IsAdmissible}
use Rattle.plan_layout.specs.Tape.{drawn_tiling}

-- the drawing of every admissible plan, whoever made it and whichever edges are lit, goes on by
-- macro steps of 32 generations
abbrev pub PlansStepByMacro : Type 0
PlansStepByMacro =
    (library : Kind → Drawing) → KeepsLaw library → (plan : Plan) → IsAdmissible plan → (lit : Lit)
    → StepsByMacro library (drawn_tiling plan) lit
