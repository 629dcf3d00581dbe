use Rattle.std.proofs.Common.{◌+◌, ◌-◌, ℕ, List, ◌++◌, arith}
use Rattle.std.proofs.lemmas.Result.{on_ok_weaker, on_err_weaker}
use Rattle.ww_base.specs.Pages.{held}
use Rattle.lists.proofs.Results.{on_err}
use Rattle.ww_base.proofs.Steps.{wrote_then, wrote_broke, wrote_to}
use Rattle.blif_write.specs.Marks.{mark_after}
use Rattle.blif_write.proofs.Pieces.{mark_next, mark_last}
use Rattle.blif_write.proofs.words.write_mark.Goals as goal

pub returns-in_err-put-clause-err : goal.returns-in_err-put-clause-err
returns-in_err-put-clause-err g c =
    let f = λ (rest : List ℕ).
    wrote_broke (wrote_to (mark_next (held c.loop.page) c.args.leading c.loop.counter rest (omega (arith, c.loop-test.true))) (c.loop.invariant rest))
    (c.in_err-put.ensures.err (mark_after (c.args.leading - (c.loop.counter + 1)) ++ rest)) in
    on_err _ f

pub loop-preserved : goal.loop-preserved
loop-preserved g c = λ rest.
    wrote_then (wrote_to (mark_next (held c.loop.page) c.args.leading c.loop.counter rest (omega (arith, c.loop-test.true))) (c.loop.invariant rest))
    (c.in_ok-put.ensures.ok (mark_after (c.args.leading - (c.loop.counter + 1)) ++ rest))

pub returns-clause-ok : goal.returns-clause-ok
returns-clause-ok g c =
    on_ok_weaker c.put-2.result (λ wrote rest. wrote_then (wrote_to (mark_last (held c.loop.page) c.args.leading c.loop.counter rest (omega (arith, c.loop-test.false))) (c.loop.invariant rest)) (wrote rest))
    c.put-2.ensures.ok

pub returns-clause-err : goal.returns-clause-err
returns-clause-err g c =
    on_err_weaker c.put-2.result (λ broke rest. wrote_broke (wrote_to (mark_last (held c.loop.page) c.args.leading c.loop.counter rest (omega (arith, c.loop-test.false))) (c.loop.invariant rest)) (broke rest))
    c.put-2.ensures.err
