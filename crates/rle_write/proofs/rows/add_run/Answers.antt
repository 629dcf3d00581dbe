use Rattle.std.proofs.Common.{◌+◌, ℕ, List, ◌++◌, replicate, sym, ap, ◌∙◌}
use Rattle.ww_rule.specs.declared.pattern.State.{State}
use Rattle.rle_write.specs.Left.{row_left, text_left}
use Rattle.ww_base.specs.Pages.{held, column_of}
use Rattle.rle_write.proofs.Lefts.{left_by}
use Rattle.lists.proofs.Results.{on_err}
use Rattle.ww_base.proofs.Steps.{wrote_as, wrote_none}
use Rattle.rle_write.proofs.Tags.{run_before_run, run_joined}
use Rattle.rle_write.proofs.rows.add_run.Goals as goal

pub returns-then-tag-kept-clause-ok : goal.returns-then-tag-kept-clause-ok
returns-then-tag-kept-clause-ok g c more rows =
    let run = c.args.kept.run in
    let n : ℕ = c.args.run.count in
    wrote_as
    (left_by (held c.args.page.now) (column_of c.args.page.now) c.args.kept.due run.count run.tag rows (ap (λ t. replicate n t ++ more) c.if-tag-kept.true)
    ∙ ap (λ l. text_left (held c.args.page.now) (column_of c.args.page.now) (row_left c.args.kept.due l rows)) (run_joined run.count n run.tag more)
    ∙ ap (λ t. text_left (held c.args.page.now) (column_of c.args.page.now) (row_left c.args.kept.due (replicate (run.count + n) t ++ more) rows)) (sym c.if-tag-kept.true))
    (wrote_none _ _ _)

pub returns-in_err-due-clause-err : goal.returns-in_err-due-clause-err
returns-in_err-due-clause-err g c =
    let run = c.args.kept.run in
    let next = c.args.run in
    let f = λ (more : List ℕ) (rows : List (List State)).
    c.in_err-due.ensures.err (replicate next.count next.tag ++ more) rows
    (run_before_run run.count run.tag next.count next.tag more c.requires.run.some (λ e. c.if-tag-kept.false (sym e))) in
    on_err _ f

pub returns-clause-ok : goal.returns-clause-ok
returns-clause-ok g c more rows =
    let run = c.args.kept.run in
    let next = c.args.run in
    c.in_ok-due.ensures.ok (replicate next.count next.tag ++ more) rows
    (run_before_run run.count run.tag next.count next.tag more c.requires.run.some (λ e. c.if-tag-kept.false (sym e)))
