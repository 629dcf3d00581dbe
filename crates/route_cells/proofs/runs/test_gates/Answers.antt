use Rattle.std.proofs.Common.{below_more}
use Rattle.route_cells.proofs.runs.test_gates.Goals as goal

pub loop-k-preserved : goal.loop-k-preserved
loop-k-preserved c = (
  below_more _ _ c.loop-k.invariant.0 c.in_ok-test_gate.ensures.in_time,
  below_more _ _ c.loop-k.invariant.1 c.in_ok-test_gate.ensures.sources,
)
