use Rattle.std.proofs.Common.{◌-◌, ◌∙◌, ℕ, List, ◌++◌, ap, arith, append_assoc}
use Rattle.std.proofs.lemmas.Result.{IfOk-weaker, on_err_weaker}
use Rattle.ww_rule.specs.declared.pattern.State.{State}
use Rattle.rle_write.specs.Runs.{repeated, spelled}
use Rattle.ww_base.specs.Pages.{held, column_of}
use Rattle.rle_write.proofs.CopiedTags.{repeated_first, repeated_first_long}
use Rattle.rle_write.proofs.Lefts.{left_by}
use Rattle.lists.proofs.Results.{on_err}
use Rattle.ww_base.proofs.Steps.{wrote_as, broke_as, wrote_then, wrote_broke}
use Rattle.rle_write.proofs.copies.add_copies.Goals as goal

pub add_runs-requires-clause-short : goal.add_runs-requires-clause-short
add_runs-requires-clause-short g c =
    omega (arith, c.requires.short, repeated_first_long c.args.count (spelled c.args.runs.now) (omega (arith, c.if-count-eq0.false)))

pub add_steps-requires-clause-short : goal.add_steps-requires-clause-short
add_steps-requires-clause-short g c =
    omega (arith, c.requires.short, c.in_ok-begun.ensures.short, repeated_first_long c.args.count (spelled c.args.runs.now) (omega (arith, c.if-count-eq0.false)))

pub returns-in_err-begun-clause-err : goal.returns-in_err-begun-clause-err
returns-in_err-begun-clause-err g c =
    let tags : List ℕ = spelled c.args.runs.now in
    let rest : List ℕ = repeated (c.args.count - 1) tags in
    let kept = c.args.kept in
    let f = λ (more : List ℕ) (rows : List (List State)).
    broke_as
    (left_by (held c.args.page.now) (column_of c.args.page.now) kept.due kept.run.count kept.run.tag rows
    (ap (λ l. l ++ more) (repeated_first c.args.count tags (omega (arith, c.if-count-eq0.false))) ∙ append_assoc tags rest more))
    (c.in_err-begun.ensures.err (rest ++ more) rows) in
    on_err _ f

pub returns-clause-short : goal.returns-clause-short
returns-clause-short g c =
    let parts = repeated_first_long c.args.count (spelled c.args.runs.now) (omega (arith, c.if-count-eq0.false)) in
    IfOk-weaker c.add_steps.result _ _ (λ k short. omega (arith, short, c.in_ok-begun.ensures.short, parts)) c.add_steps.ensures.short

pub returns-clause-ok : goal.returns-clause-ok
returns-clause-ok g c =
    let tags : List ℕ = spelled c.args.runs.now in
    let rest : List ℕ = repeated (c.args.count - 1) tags in
    let kept = c.args.kept in
    IfOk-weaker c.add_steps.result _ _ (λ k wrote more rows.
    wrote_as
    (left_by (held c.args.page.now) (column_of c.args.page.now) kept.due kept.run.count kept.run.tag rows
    (ap (λ l. l ++ more) (repeated_first c.args.count tags (omega (arith, c.if-count-eq0.false))) ∙ append_assoc tags rest more))
    (wrote_then (c.in_ok-begun.ensures.ok (rest ++ more) rows) (wrote more rows)))
    c.add_steps.ensures.ok

pub returns-clause-err : goal.returns-clause-err
returns-clause-err g c =
    let tags : List ℕ = spelled c.args.runs.now in
    let rest : List ℕ = repeated (c.args.count - 1) tags in
    let kept = c.args.kept in
    on_err_weaker c.add_steps.result (λ broke more rows.
    broke_as
    (left_by (held c.args.page.now) (column_of c.args.page.now) kept.due kept.run.count kept.run.tag rows
    (ap (λ l. l ++ more) (repeated_first c.args.count tags (omega (arith, c.if-count-eq0.false))) ∙ append_assoc tags rest more))
    (wrote_broke (c.in_ok-begun.ensures.ok (rest ++ more) rows) (broke more rows)))
    c.add_steps.ensures.err
