use Rattle.std.proofs.Common.{◌++◌}
use Rattle.std.proofs.lemmas.Result.{on_ok_weaker, on_err_weaker}
use Rattle.ww_base.proofs.Steps.{wrote_then, wrote_broke}
use Rattle.blif_write.specs.Words.{word_in}
use Rattle.blif_write.proofs.lines.write_after_space.Goals as goal

pub returns-clause-ok : goal.returns-clause-ok
returns-clause-ok g c =
    on_ok_weaker c.write_word.result (λ wrote rest. wrote_then (c.in_ok-put.ensures.ok (word_in c.args.lift.now c.args.word ++ rest)) (wrote rest)) c.write_word.ensures.ok

pub returns-clause-err : goal.returns-clause-err
returns-clause-err g c =
    on_err_weaker c.write_word.result (λ broke rest. wrote_broke (c.in_ok-put.ensures.ok (word_in c.args.lift.now c.args.word ++ rest)) (broke rest)) c.write_word.ensures.err
