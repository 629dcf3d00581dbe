-- The planes on which a plan is drawn, with any library of tiles.
use Rattle.ww_rule.specs.Wireworld.{Plane}
use Rattle.tile_core.specs.declared.kind.Kind.{Kind}
use Rattle.tile_core.specs.Drawing.{Drawing}
use Rattle.tiling.specs.Tiling.{Lit, drawn}
use Rattle.lane_core.specs.declared.plan.Plan.{Plan}
use Rattle.plan_layout.specs.Layout.{tiling_of}
use Rattle.plan_layout.specs.Starts.{start_edges}

-- the plan's tiles, with some edges lit
abbrev pub plane_with : (Kind → Drawing) → Plan → Lit → Plane
plane_with library plan lit = drawn library (tiling_of plan) lit

-- the plan's plane at generation 0
abbrev pub start_plane : (Kind → Drawing) → Plan → Plane
start_plane library plan = plane_with library plan (start_edges plan)
