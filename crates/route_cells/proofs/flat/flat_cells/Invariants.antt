use Rattle.std.proofs.Common.{◌≡◌, take}
use Rattle.route_cells.proofs.FlatRows.{flat}
use Rattle.route_cells.proofs.flat.flat_cells.Given as goal

abbrev pub invariant-loop-y : goal.invariant-loop-y
invariant-loop-y l = l.cells.items ≡ flat (take l.y l.pattern.rows)
