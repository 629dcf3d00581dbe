use Rattle.std.proofs.Common.{get_or, [], length, take, arith, below_more}
use Rattle.gate_laws.specs.declared.window.TheConstants.{CHOICES}
use Rattle.gate_laws.specs.Gates.{AnswersInTime}
use Rattle.gate_laws.specs.Drawings.{window_gate}
use Rattle.gate_laws.proofs.Windows.{choice_of}
use Rattle.gate_laws.proofs.window.always_in_time.Goals as goal

pub returns : goal.returns
returns c = λ t.
    choice_of (λ bits. AnswersInTime (window_gate c.args.base.now c.args.width c.args.ins.now c.args.outs.now c.args.time) bits) (length c.args.ins.now) c.requires.sized.few (λ k h. c.loop-choice.invariant k (omega arith))

pub loop-choice-preserved : goal.loop-choice-preserved
loop-choice-preserved c =
    below_more (λ k. AnswersInTime (window_gate c.args.base.now c.args.width c.args.ins.now c.args.outs.now c.args.time) (take (length c.args.ins.now) (get_or CHOICES k []))) c.loop-choice.choice-index c.loop-choice.invariant (c.answers_in_time.ensures c.if-not-answers_in_time.false)
