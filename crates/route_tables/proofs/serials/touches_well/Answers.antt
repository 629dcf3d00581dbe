use Rattle.std.proofs.Common.{below_more}
use Rattle.route_tables.proofs.serials.touches_well.Goals as goal

pub loop-j-preserved : goal.loop-j-preserved
loop-j-preserved c = below_more _ _ c.loop-j.invariant (c.row_touches_well.ensures c.if-not-row_touches_well.false)
