-- What the plane of a plan shows of its edges, if it is drawn with any library of tiles that keep
-- the timing law, and driven at its inputs from any lit edges on.
use Rattle.std.specs.Prelude.{ℤ, pos, ℕ, suc, ◌+◌, ◌*◌, ◌<◌, ◌≡◌, ◌↔◌, Bool, true, false, length, slice_index}
use Rattle.ww_rule.specs.declared.pattern.State.TheVariants.{Head, Conductor}
use Rattle.ww_rule.specs.Wireworld.{Plane, Due, next_plane, driven}
use Rattle.tile_core.specs.declared.kind.Kind.{Kind}
use Rattle.tile_core.specs.Drawing.{Drawing}
use Rattle.tiling.specs.Tiling.{Lit}
use Rattle.tiling.specs.Tiling.Edge.{Beside}
use Rattle.tiling.specs.Steps.{KeepsLaw, driven_edges}
use Rattle.lane_core.specs.declared.plan.Plan.{Plan}
use Rattle.lane_core.specs.Plans.{IsAdmissible, left_of, row_of}
use Rattle.plan_layout.specs.Planes.{plane_with}
use Rattle.plan_layout.specs.Layout.{end_of_body, tiling_of}
use Rattle.plan_waves.specs.Waves.{DrivesInputs}

-- A cell, given by x and y, is a head `late` generations after each macro time at which the bit is
-- 1, and at no other generation.
abbrev pub ShowsEachStep : (ℕ → Plane) → ℕ × ℕ → ℕ → (ℕ → Bool) → Type 0
ShowsEachStep plane cell late bit =
    (g : ℕ) → (plane g (pos cell.0) (pos cell.1) ≡ Head)
    ↔ ((m : ℕ) × (g ≡ 32 * m + late) × (bit m ≡ true))

-- Each injection meets a conductor, at generation 0 if its edge is not lit anyway. On each lane of
-- the body the cell at the entry of a column shows the column's edge, and the cell at its exit, 31
-- generations later, the edge after the column at the next macro time. The cell of an output shows
-- the edge at which it is entered.
pub record ShowsDrivenEdges (library : Kind → Drawing) (plan : Plan) (due : Due)
    (lit : Lit) : Type 0 where
  pub first_conductors : (lane : ℕ) → due 0 (pos (left_of plan 0)) (pos (row_of lane)) ≡ true
      → lit (Beside plan.latches lane) ≡ false
      → plane_with library plan lit (pos (left_of plan 0)) (pos (row_of lane)) ≡ Conductor
  pub conductors : (g : ℕ) (x y : ℤ) → due (suc g) x y ≡ true
      → next_plane (driven due (plane_with library plan lit) g) x y ≡ Conductor
  pub entries : (c lane : ℕ) → c < length plan.columns → lane < plan.lanes
      → ShowsEachStep (driven due (plane_with library plan lit)) (left_of plan c, row_of lane) 0
      (λ m. driven_edges (tiling_of plan) due lit m (Beside (plan.latches + c) lane))
  pub exits : (c lane : ℕ) → c < length plan.columns → lane < plan.lanes
      → ShowsEachStep (driven due (plane_with library plan lit))
      (left_of plan c + 31, row_of lane) 31
      (λ m. driven_edges (tiling_of plan) due lit (suc m) (Beside (plan.latches + (c + 1)) lane))
  pub outs : (i : ℕ) → i < length plan.outs
      → ShowsEachStep (driven due (plane_with library plan lit))
      (left_of plan (length plan.columns), row_of (slice_index plan.outs i)) 0
      (λ m. driven_edges (tiling_of plan) due lit m
      (Beside (end_of_body plan) (slice_index plan.outs i)))

-- every admissible plan shows its edges: for every library, every drive of its inputs at multiples
-- of 32 generations, and all edges at the beginning
abbrev pub PlansShowEdges : Type 0
PlansShowEdges =
    (library : Kind → Drawing) → KeepsLaw library → (plan : Plan) → IsAdmissible plan → (due : Due)
    → DrivesInputs plan due
    → (lit : Lit) → ShowsDrivenEdges library plan due lit
