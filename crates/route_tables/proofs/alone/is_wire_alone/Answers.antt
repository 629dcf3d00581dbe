use Rattle.std.proofs.Common.{below_more}
use Rattle.route_tables.proofs.alone.is_wire_alone.Goals as goal

pub loop-i-preserved : goal.loop-i-preserved
loop-i-preserved c = below_more _ _ c.loop-i.invariant (c.is_alone.ensures c.if-not-is_alone.false)
