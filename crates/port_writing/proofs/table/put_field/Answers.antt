use Rattle.std.proofs.Common.{◌++◌}
use Rattle.std.proofs.lemmas.Result.{on_ok_weaker, on_err_weaker}
use Rattle.ww_base.proofs.Steps.{wrote_then, wrote_broke}
use Rattle.port_writing.proofs.table.put_field.Goals as goal

pub returns-clause-ok : goal.returns-clause-ok
returns-clause-ok g c =
    on_ok_weaker c.put-2.result (λ wrote rest. wrote_then (c.in_ok-put.ensures.ok (c.args.field.now ++ rest)) (wrote rest)) c.put-2.ensures.ok

pub returns-clause-err : goal.returns-clause-err
returns-clause-err g c =
    on_err_weaker c.put-2.result (λ broke rest. wrote_broke (c.in_ok-put.ensures.ok (c.args.field.now ++ rest)) (broke rest)) c.put-2.ensures.err
