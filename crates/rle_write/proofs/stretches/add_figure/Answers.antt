use Rattle.std.proofs.Common.{◌∙◌, ◌++◌, ap, arith}
use Rattle.std.proofs.lemmas.Result.{IfOk-weaker, on_err_weaker}
use Rattle.rle_write.specs.Runs.{spelled}
use Rattle.ww_base.specs.Pages.{held, column_of}
use Rattle.rle_write.proofs.Lefts.{left_by}
use Rattle.rle_write.proofs.FigureCells.{one_row}
use Rattle.ww_base.proofs.Steps.{wrote_as, broke_as}
use Rattle.rle_write.proofs.stretches.add_figure.Goals as goal

pub returns-then-often-eq1-clause-ok : goal.returns-then-often-eq1-clause-ok
returns-then-often-eq1-clause-ok g c =
    let row = ap spelled c.runs.ensures.runs ∙ c.row_of-row.ensures in
    let whole =
    one_row c.args.blocks.now c.args.column c.args.count c.args.often c.args.y (spelled c.runs.result.now) (omega (arith, c.if-count-eq1.true))
    (omega (arith, c.if-often-eq1.true)) row in
    let kept = c.args.kept in
    IfOk-weaker c.add_row.result _ _ (λ k wrote more rows.
    wrote_as
    (left_by (held c.args.page.now) (column_of c.args.page.now) kept.due kept.run.count kept.run.tag rows (ap (λ l. l ++ more) whole))
    (wrote more rows))
    c.add_row.ensures.ok

pub returns-then-often-eq1-clause-err : goal.returns-then-often-eq1-clause-err
returns-then-often-eq1-clause-err g c =
    let row = ap spelled c.runs.ensures.runs ∙ c.row_of-row.ensures in
    let whole =
    one_row c.args.blocks.now c.args.column c.args.count c.args.often c.args.y (spelled c.runs.result.now) (omega (arith, c.if-count-eq1.true))
    (omega (arith, c.if-often-eq1.true)) row in
    let kept = c.args.kept in
    on_err_weaker c.add_row.result (λ broke more rows.
    broke_as
    (left_by (held c.args.page.now) (column_of c.args.page.now) kept.due kept.run.count kept.run.tag rows (ap (λ l. l ++ more) whole))
    (broke more rows))
    c.add_row.ensures.err
