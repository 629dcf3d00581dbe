-- The box of cells of a plan with given lit edges.
use Rattle.std.specs.Prelude.{ℕ, pos, List, map}
use Rattle.std.specs.List.{range_with_len}
use Rattle.ww_rule.specs.declared.pattern.State.{State}
use Rattle.ww_rule.specs.Grid.{Grid}
use Rattle.tiling.specs.Tiling.{Lit}
use Rattle.tile_library.specs.Drawings.{shipped_drawing}
use Rattle.lane_core.specs.declared.plan.Plan.{Plan}
use Rattle.lane_core.specs.Plans.{size_of}
use Rattle.plan_layout.specs.Planes.{plane_with}

-- row y of the plan's plane with these edges lit, as wide as the drawing
abbrev pub picture_row : Plan → Lit → ℕ → List State
picture_row plan lit y =
    map (λ x. plane_with shipped_drawing plan lit (pos x) (pos y))
    (range_with_len 0 (size_of plan).0)

-- the rows of the drawing; with the plan's start edges they are the plan's pattern
abbrev pub grid_with : Plan → Lit → Grid
grid_with plan lit =
    record {
      width = (size_of plan).0;
      height = (size_of plan).1;
      rows = map (picture_row plan lit) (range_with_len 0 (size_of plan).1);
    }
