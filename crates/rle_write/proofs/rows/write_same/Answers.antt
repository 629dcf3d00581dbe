use Rattle.std.proofs.Common.{◌++◌, replicate, sym, ap}
use Rattle.std.proofs.lemmas.Result.{IfOk-weaker, on_err_weaker}
use Rattle.ww_base.specs.Pages.{held, column_of}
use Rattle.rle_write.proofs.Lefts.{left_by}
use Rattle.ww_base.proofs.Steps.{wrote_as, broke_as}
use Rattle.rle_write.proofs.rows.write_same.Goals as goal

pub returns-clause-ok : goal.returns-clause-ok
returns-clause-ok g c =
    let run = c.args.kept.run in
    IfOk-weaker c.add_run.result _ _ (λ k wrote more rows.
    wrote_as
    (left_by (held c.args.page.now) (column_of c.args.page.now) c.args.kept.due run.count run.tag rows (ap (λ t. replicate c.args.count t ++ more) (sym c.cell_tag-tag.ensures.tag)))
    (wrote more rows))
    c.add_run.ensures.ok

pub returns-clause-err : goal.returns-clause-err
returns-clause-err g c =
    let run = c.args.kept.run in
    on_err_weaker c.add_run.result (λ broke more rows.
    broke_as
    (left_by (held c.args.page.now) (column_of c.args.page.now) c.args.kept.due run.count run.tag rows (ap (λ t. replicate c.args.count t ++ more) (sym c.cell_tag-tag.ensures.tag)))
    (broke more rows))
    c.add_run.ensures.err
