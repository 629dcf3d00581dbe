-- What stands beside the ports of a plan, where other wires may lead to them.
use Rattle.std.specs.Prelude.{pos, ℕ, ◌+◌, ◌*◌, ◌<◌, ◌≤◌, ◌≡◌, length, slice_index}
use Rattle.ww_rule.specs.declared.pattern.State.TheVariants.{Empty}
use Rattle.ww_rule.specs.Wireworld.{Plane}
use Rattle.tile_core.specs.declared.kind.Kind.{Kind}
use Rattle.tile_core.specs.Drawing.{Drawing}
use Rattle.tiling.specs.Tiling.{Lit}
use Rattle.lane_core.specs.declared.plan.Plan.{Plan}
use Rattle.lane_core.specs.Plans.{IsAdmissible, in_cell_of, out_cell_of}
use Rattle.plan_layout.specs.Planes.{plane_with}

-- y is one of the sixteen rows of a lane
abbrev pub IsRowOf : ℕ → ℕ → Type 0
IsRowOf lane y = (16 * lane ≤ y) × (y < 16 * lane + 16)

-- the plane is empty on the lane of each input west of the input's cell, and on that of each output
-- east of the output's
pub record HasFreePorts (plan : Plan) (p : Plane) : Type 0 where
  pub west : (i x y : ℕ) → i < length plan.ins → IsRowOf (slice_index plan.ins i) y
      → x < (in_cell_of plan i).0 → p (pos x) (pos y) ≡ Empty
  pub east : (i x y : ℕ) → i < length plan.outs → IsRowOf (slice_index plan.outs i) y
      → (out_cell_of plan i).0 < x → p (pos x) (pos y) ≡ Empty

-- the plane of every admissible plan has free ports, whichever library it is drawn with and
-- whichever edges are lit
abbrev pub PortsStandFree : Type 0
PortsStandFree =
    (plan : Plan) → IsAdmissible plan → (library : Kind → Drawing) (lit : Lit)
    → HasFreePorts plan (plane_with library plan lit)
