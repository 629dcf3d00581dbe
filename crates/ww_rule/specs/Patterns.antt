-- A pattern, and a plane as a box of rows, as values.
use Rattle.ww_rule.specs.declared.pattern.Pattern.{Pattern}
use Rattle.ww_rule.specs.declared.plane.Plane as boxed
use Rattle.ww_rule.specs.Grid.{Grid}

-- the box of a pattern
abbrev pub grid_of : Pattern → Grid
grid_of pattern = record { width = pattern.width; height = pattern.height; rows = pattern.rows }

-- the box of a plane
abbrev pub box_of : boxed.Plane → Grid
box_of plane = record { width = plane.width; height = plane.height; rows = plane.rows }
