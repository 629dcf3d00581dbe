use Rattle.std.proofs.Common.{arith, below_more}
use Rattle.std.proofs.lemmas.List.Elements.{All-from_get_or}
use Rattle.gate_laws.proofs.BitNumbers.{no_out}
use Rattle.gate_laws.specs.Drawn.{IsOfOne}
use Rattle.gate_laws.proofs.crossing.are_of_one.Goals as goal

pub returns : goal.returns
returns c = λ t. All-from_get_or IsOfOne c.args.outs.now no_out (λ k h. c.loop-out.invariant k (omega arith))

pub loop-out-preserved : goal.loop-out-preserved
loop-out-preserved c = below_more _ _ c.loop-out.invariant (c.is_of_one.ensures c.if-not-is_of_one.false)
