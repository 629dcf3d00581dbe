-- The plane on which a plan is drawn, and the box of cells that is drawn.
use Rattle.std.specs.Prelude.{ℕ, pos, ◌+◌, ◌<◌, ◌≡◌, List, length, get_or, map}
use Rattle.std.specs.List.{range_with_len}
use Rattle.ww_rule.specs.declared.pattern.State.{State}
use Rattle.ww_rule.specs.declared.pattern.State.TheVariants.{Empty}
use Rattle.ww_rule.specs.Wireworld.{Plane}
use Rattle.ww_rule.specs.Grid.{Grid, IsGrid, plane_of}
use Rattle.tile_library.specs.Drawings.{shipped_drawing}
use Rattle.lane_core.specs.declared.plan.Plan.{Plan}
use Rattle.lane_core.specs.Plans.{size_of}
use Rattle.plan_layout.specs.Tape.{drawn_plane}

-- the cells of one row of the plan's plane at generation 0, in the shipped drawings, from a column
-- on eastward
abbrev pub AreCellsOfRow : Plan → ℕ → ℕ → List State → Type 0
AreCellsOfRow plan y x cells =
    (i : ℕ) → i < length cells → get_or cells i Empty ≡ drawn_plane shipped_drawing plan
    (pos (x + i)) (pos y)

-- row y of that plane, as wide as the drawing
abbrev pub start_row : Plan → ℕ → List State
start_row plan y =
    map (λ x. drawn_plane shipped_drawing plan (pos x) (pos y)) (range_with_len 0 (size_of plan).0)

-- the plan's pattern: the rows of the drawing
abbrev pub start_grid : Plan → Grid
start_grid plan =
    record {
      width = (size_of plan).0;
      height = (size_of plan).1;
      rows = map (start_row plan) (range_with_len 0 (size_of plan).1);
    }

-- the pattern is a box of cells, and its plane is `p`: outside the box that is empty
pub record IsPatternOf (grid : Grid) (p : Plane) : Type 0 where
  pub box : IsGrid grid.width grid.height grid.rows
  pub plane : plane_of grid.rows ≡ p
