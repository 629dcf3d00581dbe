use Rattle.std.proofs.Common.{◌∙◌, ◌++◌, ◌∷◌, [], ap, refl}
use Rattle.std.proofs.lemmas.Result.{err_from_is_err_and}
use Rattle.std.proofs.lemmas.List.{take_all}
use Rattle.aiger_meaning.specs.FlatOf.{latches_from}
use Rattle.aiger_meaning.proofs.Pushes.{latch_more}
use Rattle.aiger_meaning.proofs.ports.latches_from.Goals as goal

pub returns-in_err-flat : goal.returns-in_err-flat
returns-in_err-flat c = rw ((err_from_is_err_and c.from_residual.result c.from_residual.ensures.1).1) tt

pub returns-in_err-push : goal.returns-in_err-push
returns-in_err-push c = rw ((err_from_is_err_and c.from_residual-in_err-push.result c.from_residual-in_err-push.ensures.1).1) tt

pub loop-i-init : goal.loop-i-init
loop-i-init c = c.in_ok-flat.ensures.items

pub returns : goal.returns
returns c = c.loop-i.invariant ∙ ap (latches_from c.args.input c.args.output) (take_all c.loop-i.i c.args.latches.now c.loop-i-test.false)

pub loop-i-preserved : goal.loop-i-preserved
loop-i-preserved c =
    latch_more c.args.input c.args.output c.loop-i.flat.items c.push.new.self.items c.args.latches.now c.loop-i.i _ _ c.loop-i-test.true refl c.loop-i.invariant (c.in_ok-push.ensures.items ∙ ap (λ l. c.loop-i.flat.items ++ l ∷ []) c.latch_between.ensures)
