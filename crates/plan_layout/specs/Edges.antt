-- What the program's values for edges stand for.
use Rattle.std.specs.Prelude.{ℕ}
use Rattle.tiling.specs.Tiling as tiling
use Rattle.plan_layout.specs.declared.edge.Edge.{Edge}
use Rattle.plan_layout.specs.declared.edge.Edge.TheVariants.{Beside, Above}

abbrev pub as_edge : Edge → tiling.Edge
as_edge (Beside column lane) = tiling.Edge.Beside column lane
as_edge (Above column lane) = tiling.Edge.Above column lane

-- the tile column and the lane by which an edge is named
abbrev pub column_in : tiling.Edge → ℕ
column_in (tiling.Edge.Beside column lane) = column
column_in (tiling.Edge.Above column lane) = column

abbrev pub lane_in : tiling.Edge → ℕ
lane_in (tiling.Edge.Beside column lane) = lane
lane_in (tiling.Edge.Above column lane) = lane
