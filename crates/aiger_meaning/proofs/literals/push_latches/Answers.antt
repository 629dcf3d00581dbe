use Rattle.std.proofs.Common.{refl, ap, ◌∙◌, ◌++◌, List, map}
use Rattle.std.proofs.lemmas.List.{take_all}
use Rattle.lists.proofs.Cuts.{added_more}
use Rattle.aiger_text.specs.declared.aig.AigLatch.{AigLatch}
use Rattle.std.proofs.lemmas.Result.{err_from_is_err_and}
use Rattle.aiger_meaning.proofs.literals.push_latches.Goals as goal

pub returns-in_err-push : goal.returns-in_err-push
returns-in_err-push c = rw ((err_from_is_err_and c.from_residual.result c.from_residual.ensures.1).1) tt

pub loop-latch-preserved : goal.loop-latch-preserved
loop-latch-preserved c =
    added_more (λ (latch : AigLatch). latch.lit) c.args.literals.now.items c.loop-latch.literals.items c.push.new.self.items c.args.latches.now c.loop-latch.latch-index _ _ c.loop-latch-test.true
    c.in_ok-push.ensures.items refl c.loop-latch.invariant

pub returns : goal.returns
returns c =
    c.loop-latch.invariant
    ∙ ap (λ (latches : List AigLatch). c.args.literals.now.items ++ map (λ (latch : AigLatch). latch.lit) latches) (take_all c.loop-latch.latch-index c.args.latches.now c.loop-latch-test.false)
