use Rattle.std.proofs.Common.{◌++◌, ap, arith}
use Rattle.std.proofs.lemmas.Result.{IfOk-weaker, on_err_weaker}
use Rattle.rle_write.specs.declared.rows.Run.{Run}
use Rattle.ww_base.specs.Pages.{held, column_of}
use Rattle.rle_write.proofs.Lefts.{left_by}
use Rattle.rle_write.proofs.CopiedTags.{repeated_one, repeated_one_long}
use Rattle.ww_base.proofs.Steps.{wrote_as, broke_as}
use Rattle.rle_write.proofs.stretches.add_stretch.Goals as goal

abbrev no_run : Run
no_run = record { count = 0; tag = 0 }

pub returns-then-runs-eq1-clause-ok : goal.returns-then-runs-eq1-clause-ok
returns-then-runs-eq1-clause-ok g c =
    let whole = repeated_one c.args.runs.now no_run c.args.count (omega (arith, c.if-runs-eq1.true)) in
    let kept = c.args.kept in
    IfOk-weaker c.add_run.result _ _ (λ k wrote more rows.
    wrote_as
    (left_by (held c.args.page.now) (column_of c.args.page.now) kept.due kept.run.count kept.run.tag rows (ap (λ l. l ++ more) whole))
    (wrote more rows))
    c.add_run.ensures.ok

pub returns-then-runs-eq1-clause-err : goal.returns-then-runs-eq1-clause-err
returns-then-runs-eq1-clause-err g c =
    let whole = repeated_one c.args.runs.now no_run c.args.count (omega (arith, c.if-runs-eq1.true)) in
    let kept = c.args.kept in
    on_err_weaker c.add_run.result (λ broke more rows.
    broke_as
    (left_by (held c.args.page.now) (column_of c.args.page.now) kept.due kept.run.count kept.run.tag rows (ap (λ l. l ++ more) whole))
    (broke more rows))
    c.add_run.ensures.err

pub overflow_mul-run : goal.overflow_mul-run
overflow_mul-run g c =
    omega (arith, c.requires.short, repeated_one_long c.args.runs.now no_run c.args.count (omega (arith, c.if-runs-eq1.true)))

pub add_run-requires-clause-short : goal.add_run-requires-clause-short
add_run-requires-clause-short g c =
    omega (arith, c.requires.short, repeated_one_long c.args.runs.now no_run c.args.count (omega (arith, c.if-runs-eq1.true)))

pub returns-then-runs-eq1-clause-short : goal.returns-then-runs-eq1-clause-short
returns-then-runs-eq1-clause-short g c =
    let long = repeated_one_long c.args.runs.now no_run c.args.count (omega (arith, c.if-runs-eq1.true)) in
    IfOk-weaker c.add_run.result _ _ (λ k short. omega (arith, short, long)) c.add_run.ensures.short
