use Rattle.std.proofs.Common.{below_more}
use Rattle.route_tables.proofs.wires.are_on_wires.Goals as goal

pub loop-n-preserved : goal.loop-n-preserved
loop-n-preserved c = below_more _ _ c.loop-n.invariant (c.is_on_wire.ensures c.if-not-is_on_wire.false)
