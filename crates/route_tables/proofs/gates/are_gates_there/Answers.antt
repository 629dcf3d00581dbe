use Rattle.std.proofs.Common.{below_more}
use Rattle.route_tables.proofs.gates.are_gates_there.Goals as goal

pub loop-k-preserved : goal.loop-k-preserved
loop-k-preserved c = below_more _ _ c.loop-k.invariant (c.is_gate_there.ensures c.if-not-is_gate_there.false)
