use Rattle.std.proofs.Common.{below_more}
use Rattle.route_tables.proofs.feeds.are_gates_fed.Goals as goal

pub loop-k-preserved : goal.loop-k-preserved
loop-k-preserved c = below_more _ _ c.loop-k.invariant (c.is_gate_fed.ensures c.if-not-is_gate_fed.false)
