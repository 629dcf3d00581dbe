use Rattle.std.proofs.Common.{below_more}
use Rattle.route_tables.proofs.gates.are_in_gates.Goals as goal

pub loop-n-preserved : goal.loop-n-preserved
loop-n-preserved c = below_more _ _ c.loop-n.invariant (c.is_in_gate.ensures c.if-not-is_in_gate.false)
