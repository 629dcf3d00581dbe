-- What the drawing of a plan is, and what it does in time.
use Rattle.tiling.specs.Tiling.{Lit}
use Rattle.tiling.specs.Steps.{StepsByMacro}
use Rattle.tile_library.specs.Drawings.{shipped_drawing}
use Rattle.lane_core.specs.declared.plan.Plan.{Plan}
use Rattle.lane_core.specs.Plans.{IsAdmissible}
use Rattle.plan_layout.specs.Tape.{drawn_plane, drawn_tiling}
use Rattle.grid_assembly.specs.PlanDrawing.{start_grid, IsPatternOf}

-- the drawing of every admissible plan, whichever edges are lit, goes on by macro steps
abbrev pub StepsByEdges : Type 0
StepsByEdges =
    (plan : Plan) → IsAdmissible plan → (lit : Lit)
    → StepsByMacro shipped_drawing (drawn_tiling plan) lit

-- the pattern of every admissible plan is the plane of its drawing at generation 0
abbrev pub PatternsArePlanes : Type 0
PatternsArePlanes =
    (plan : Plan) → IsAdmissible plan → IsPatternOf (start_grid plan)
    (drawn_plane shipped_drawing plan)
