use Rattle.std.proofs.Common.{below_more}
use Rattle.route_tables.proofs.gates.has_cells.Goals as goal

pub loop-m-preserved : goal.loop-m-preserved
loop-m-preserved c = below_more _ _ c.loop-m.invariant (c.has_place.ensures c.if-not-has_place.false)
