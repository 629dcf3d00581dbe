use Rattle.std.proofs.Common.{below_more}
use Rattle.gate_laws.proofs.window.are_ready.Goals as goal

pub loop-input-preserved : goal.loop-input-preserved
loop-input-preserved c = below_more _ _ c.loop-input.invariant (c.is_ready_if.ensures c.if-not-is_ready_if.false)
