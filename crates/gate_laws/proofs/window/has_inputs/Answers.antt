use Rattle.std.proofs.Common.{below_more}
use Rattle.gate_laws.proofs.window.has_inputs.Goals as goal

pub loop-input-preserved : goal.loop-input-preserved
loop-input-preserved c = below_more _ _ c.loop-input.invariant (c.has_input.ensures c.if-not-has_input.false)
