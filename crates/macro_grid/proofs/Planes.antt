-- The plane of a plan 32 generations later.
use Rattle.std.proofs.Common.{◌≡◌, sym, ◌∙◌, ap}
use Rattle.std.proofs.Math.Path.{fun_ext}
use Rattle.tile_core.specs.declared.kind.Kind.{Kind}
use Rattle.tile_core.specs.Drawing.{Drawing}
use Rattle.tiling.specs.Tiling.{Edge, Lit, drawn}
use Rattle.tiling.specs.MacroStep.{macro_step}
use Rattle.tiling.specs.Steps.{KeepsLaw, StepsByMacro}
use Rattle.tiling.proofs.LitPieces.{steps_by_macro}
use Rattle.lane_core.specs.declared.plan.Plan.{Plan}
use Rattle.lane_core.specs.Plans.{IsAdmissible}
use Rattle.plan_layout.specs.Tape.{drawn_tiling}
use Rattle.macro_grid.specs.Planes.{IsDrawnAfter32}
use Rattle.macro_grid.proofs.Drawings.{drawing_fits}

-- an admissible plan takes macro steps
pub steps_of : (plan : Plan) → IsAdmissible plan → (library : Kind → Drawing) → KeepsLaw library → (lit : Lit) → StepsByMacro library (drawn_tiling plan) lit
steps_of plan h library law lit = steps_by_macro library law (drawn_tiling plan) (drawing_fits plan h) lit

-- edges that are those of the macro step at each place draw the plane of 32 generations later
pub drawn_after : (plan : Plan) → IsAdmissible plan → (library : Kind → Drawing) → KeepsLaw library → (old new : Lit)
    → ((edge : Edge) → new edge ≡ macro_step (drawn_tiling plan) old edge) → IsDrawnAfter32 library (drawn_tiling plan) old new
drawn_after plan h library law old new each =
    (steps_of plan h library law old).whole 1 ∙ ap (λ (lit : Lit). drawn library (drawn_tiling plan) lit) (sym (fun_ext each))
