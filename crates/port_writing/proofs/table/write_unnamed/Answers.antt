use Rattle.std.proofs.Common.{◌∷◌}
use Rattle.std.proofs.lemmas.Result.{on_ok_weaker, on_err_weaker}
use Rattle.ww_base.proofs.Steps.{wrote_then, wrote_broke}
use Rattle.port_writing.proofs.table.write_unnamed.Goals as goal

pub returns-clause-ok : goal.returns-clause-ok
returns-clause-ok g c =
    on_ok_weaker c.put.result (λ wrote rest. wrote_then (c.in_ok-begin_line.ensures.ok (10 ∷ rest)) (wrote rest)) c.put.ensures.ok

pub returns-clause-err : goal.returns-clause-err
returns-clause-err g c =
    on_err_weaker c.put.result (λ broke rest. wrote_broke (c.in_ok-begin_line.ensures.ok (10 ∷ rest)) (broke rest)) c.put.ensures.err
