-- What a plan with a tape does by itself.
use Rattle.std.specs.Prelude.{pos, ℕ, suc, ◌+◌, ◌*◌, ◌<◌, ◌≤◌, ◌≡◌, ◌↔◌, ◌==◌, false, length}
use Rattle.std.specs.List.{list_any}
use Rattle.ww_rule.specs.declared.pattern.State.TheVariants.{Head}
use Rattle.ww_rule.specs.Wireworld.{Due, evolve, driven}
use Rattle.tile_core.specs.declared.kind.Kind.{Kind}
use Rattle.tile_core.specs.Drawing.{Drawing}
use Rattle.tiling.specs.Tiling.{Edge, Lit}
use Rattle.tiling.specs.MacroStep.{macro_step}
use Rattle.tiling.specs.Steps.{KeepsLaw, driven_edges}
use Rattle.lane_core.specs.declared.plan.Plan.{Plan}
use Rattle.lane_core.specs.Plans.{IsAdmissible, out_cell_of, net_cell_of}
use Rattle.plan_layout.specs.Layout.{tiling_of}
use Rattle.plan_layout.specs.Planes.{start_plane}
use Rattle.plan_layout.specs.Starts.{HasStartEdges, start_edges}
use Rattle.lane_core.specs.Tape.{tape_rows, tape_shift, moved_east}
use Rattle.plan_layout.specs.Tape.{taped_tiling, drawn_edges, drawn_plane}
use Rattle.plan_waves.specs.Waves.{DrivesInputs}
use Rattle.plan_waves.specs.Tape.{drive_of_rows, is_due_on, taped_edges}

-- The tape has room, and no head is due on a lane without an input, nor after the end of the tape.
pub record FitsTape (plan : Plan) (shift tiles : ℕ) (due : Due) : Type 0 where
  pub room : tiles ≤ shift + plan.latches
  pub on_inputs : (g lane : ℕ) → list_any (λ input. input == lane) plan.ins ≡ false
      → is_due_on plan due g lane ≡ false
  pub within : (m lane : ℕ) → tiles < m → is_due_on plan due (32 * m) lane ≡ false

-- A macro step of every admissible plan with a tape does what a macro step of the driven plan does,
-- and brings the tape one tile further east.
abbrev pub TapesRunIn : Type 0
TapesRunIn =
    (plan : Plan) → IsAdmissible plan → (shift tiles : ℕ) (due : Due) → DrivesInputs plan due
    → FitsTape plan shift tiles due
    → (lit : Lit) (m : ℕ) (edge : Edge)
    → macro_step (taped_tiling plan shift tiles)
    (taped_edges plan shift due (driven_edges (tiling_of plan) due lit) m) edge
    ≡ taped_edges plan shift due (driven_edges (tiling_of plan) due lit) (suc m) edge

-- The edges of the drawing that are lit at generation 0, by the tape and by the starts, are those
-- of `taped_edges` at macro time 0, for the plan that the rows of the tape drive.
abbrev pub TapesBegin : Type 0
TapesBegin =
    (plan : Plan) → IsAdmissible plan → HasStartEdges plan → (edge : Edge)
    → drawn_edges plan edge ≡ taped_edges plan (tape_shift plan)
    (drive_of_rows plan (tape_rows plan))
    (driven_edges (tiling_of plan) (drive_of_rows plan (tape_rows plan))
    (start_edges plan)) 0 edge

-- A cell, given by x, y and an offset, is a head in the drawing with the tape, which nothing
-- drives, at the same generations as in the plan without a tape, which the rows of the tape drive.
abbrev pub ShowsWithoutDrive : (Kind → Drawing) → Plan → ℕ × ℕ × ℕ → Type 0
ShowsWithoutDrive library plan cell =
    (g : ℕ) → (evolve g (drawn_plane library plan) (pos (moved_east (tape_shift plan) cell).0)
    (pos (moved_east (tape_shift plan) cell).1) ≡ Head)
    ↔ (driven (drive_of_rows plan (tape_rows plan)) (start_plane library plan) g (pos cell.0)
    (pos cell.1) ≡ Head)

-- the cells of all outputs and nets show without a drive what they show in the driven plan
pub record ShowsByItself (library : Kind → Drawing) (plan : Plan) : Type 0 where
  pub outs : (i : ℕ) → i < length plan.outs → ShowsWithoutDrive library plan (out_cell_of plan i)
  pub nets : (i : ℕ) → i < length plan.nets → ShowsWithoutDrive library plan (net_cell_of plan i)

abbrev pub TapesShowRows : Type 0
TapesShowRows =
    (library : Kind → Drawing) → KeepsLaw library → (plan : Plan) → IsAdmissible plan
    → HasStartEdges plan → ShowsByItself library plan
