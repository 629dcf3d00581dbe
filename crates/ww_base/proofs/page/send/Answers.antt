use Rattle.ww_base.proofs.Steps.{both_err, broke_piece}
use Rattle.ww_base.proofs.page.send.Goals as goal

pub returns-clause-err : goal.returns-clause-err
returns-clause-err g c =
    both_err c.write_all.result (λ front rose rest. broke_piece c.args.piece.now rest front rose)
    c.write_all.ensures.front c.write_all.ensures.cause.failed
