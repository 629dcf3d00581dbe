use Rattle.std.proofs.Common.{below_more}
use Rattle.route_tables.proofs.serials.are_gates_apart.Goals as goal

pub loop-n-preserved : goal.loop-n-preserved
loop-n-preserved c = below_more _ _ c.loop-n.invariant (c.touches_well.ensures c.if-not-touches_well.false)
