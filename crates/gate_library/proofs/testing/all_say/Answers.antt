use Rattle.std.proofs.Common.{get_or, subst, below_more}
use Rattle.gate_library.specs.Lawful.{no_out, SaysAnswer}
use Rattle.gate_library.proofs.testing.all_say.Goals as goal

pub loop-o-preserved : goal.loop-o-preserved
loop-o-preserved c =
    below_more _ _ c.loop-o.invariant
    (subst (SaysAnswer c.args.timing c.args.count (get_or c.args.outs.now c.loop-o.o no_out)) c.answer_at.ensures (c.says.ensures c.if-not-says.false))
