use Rattle.std.proofs.Common.{below_more}
use Rattle.route_tables.proofs.wires.goes_on.Goals as goal

pub loop-i-preserved : goal.loop-i-preserved
loop-i-preserved c = below_more _ _ c.loop-i.invariant (c.steps_on.ensures c.if-not-steps_on.false)
