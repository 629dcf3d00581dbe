use Rattle.std.proofs.Common.{◌≡◌, get_or, [], take, arith, below_more}
use Rattle.lists.specs.Items.{flag_at}
use Rattle.gate_laws.specs.Drawings.{number_of_bits}
use Rattle.gate_laws.proofs.Windows.{choice_of}
use Rattle.gate_laws.specs.declared.window.TheConstants.{CHOICES}
use Rattle.gate_library.specs.Lawful.{answer_bit}
use Rattle.gate_library.proofs.testing.says_together.Goals as goal

pub returns : goal.returns
returns c = λ t.
    choice_of (λ bits. flag_at c.args.out.table (number_of_bits bits) ≡ answer_bit bits c.args.answer) c.args.count c.requires.few (λ k h. c.loop-choice.invariant k (omega arith))

pub loop-choice-preserved : goal.loop-choice-preserved
loop-choice-preserved c =
    below_more (λ k. flag_at c.args.out.table (number_of_bits (take c.args.count (get_or CHOICES k []))) ≡ answer_bit (take c.args.count (get_or CHOICES k [])) c.args.answer) c.loop-choice.choice-index c.loop-choice.invariant (c.says_row.ensures c.if-not-says_row.false)
