use Rattle.std.proofs.Common.{◌≡◌, ◌-◌, ◌∙◌, ℕ, List, ◌++◌, take, drop, length, length-drop, ap, sym, subst, arith, append_assoc}
use Rattle.std.proofs.lemmas.List.{take_all}
use Rattle.std.proofs.lemmas.List.Elements.{All-take, All-drop}
use Rattle.std.specs.Prelude.{IfSome}
use Rattle.std.proofs.lemmas.Result.{IfOk-weaker, on_err_weaker}
use Rattle.ww_rule.specs.declared.pattern.State.{State}
use Rattle.rle_write.specs.declared.rows.Run.{Run}
use Rattle.rle_write.specs.declared.steps.Step.{Step}
use Rattle.rle_write.specs.Runs.{IsCellRun, spelled}
use Rattle.rle_write.specs.Steps.{IsStepOver}
use Rattle.ww_base.specs.Pages.{held, column_of}
use Rattle.rle_write.proofs.Lefts.{left_by}
use Rattle.rle_write.proofs.StretchCells.{spelled_split, spelled_parts}
use Rattle.lists.proofs.Results.{on_err}
use Rattle.ww_base.proofs.Steps.{wrote_as, broke_as, wrote_then, wrote_broke}
use Rattle.rle_write.proofs.copies.add_row.Goals as goal

pub add_runs-requires : goal.add_runs-requires
add_runs-requires g c = record { cell = c.requires.cell; runs = c.requires.runs; short = c.requires.short }

pub add_runs-requires-2-clause-cell : goal.add_runs-requires-2-clause-cell
add_runs-requires-2-clause-cell g c = c.requires.cell

pub add_runs-requires-2-clause-runs : goal.add_runs-requires-2-clause-runs
add_runs-requires-2-clause-runs g c = All-take IsCellRun 2 c.args.runs.now c.requires.runs

pub add_step-requires-clause-cell : goal.add_step-requires-clause-cell
add_step-requires-clause-cell g c = c.in_ok-begun.ensures.cell

pub add_step-requires-clause-runs : goal.add_step-requires-clause-runs
add_step-requires-clause-runs g c =
    let runs : List Run = c.args.runs.now in
    All-take IsCellRun (length runs - 2) (drop 2 runs) (All-drop IsCellRun 2 runs c.requires.runs)

pub add_step-requires-clause-step : goal.add_step-requires-clause-step
add_step-requires-clause-step g c =
    let runs : List Run = c.args.runs.now in
    let rest : take (length runs - 2) (drop 2 runs) ≡ drop 2 runs = take_all (length runs - 2) (drop 2 runs) (omega (arith, length-drop 2 runs)) in
    subst (λ r. IfSome c.args.step (λ (s : Step). IsStepOver s.from r c.args.bytes.now s.after)) (sym rest) c.requires.step

pub add_runs-requires-2-clause-short : goal.add_runs-requires-2-clause-short
add_runs-requires-2-clause-short g c = omega (arith, c.requires.short, spelled_parts 2 c.args.runs.now)

pub add_step-requires-clause-short : goal.add_step-requires-clause-short
add_step-requires-clause-short g c = omega (arith, c.requires.short, c.in_ok-begun.ensures.short, spelled_parts 2 c.args.runs.now)

pub returns-in_err-begun-clause-err : goal.returns-in_err-begun-clause-err
returns-in_err-begun-clause-err g c =
    let runs : List Run = c.args.runs.now in
    let rest : List ℕ = spelled (take (length runs - 2) (drop 2 runs)) in
    let kept = c.args.kept in
    let f = λ (more : List ℕ) (rows : List (List State)).
    broke_as
    (left_by (held c.args.page.now) (column_of c.args.page.now) kept.due kept.run.count kept.run.tag rows
    (ap (λ l. l ++ more) (spelled_split 2 runs) ∙ append_assoc (spelled (take 2 runs)) rest more))
    (c.in_err-begun.ensures.err (rest ++ more) rows) in
    on_err _ f

pub returns-clause-short : goal.returns-clause-short
returns-clause-short g c =
    let parts = spelled_parts 2 c.args.runs.now in
    IfOk-weaker c.add_step.result _ _ (λ k short. omega (arith, short, c.in_ok-begun.ensures.short, parts)) c.add_step.ensures.short

pub returns-clause-ok : goal.returns-clause-ok
returns-clause-ok g c =
    let runs : List Run = c.args.runs.now in
    let rest : List ℕ = spelled (take (length runs - 2) (drop 2 runs)) in
    let kept = c.args.kept in
    IfOk-weaker c.add_step.result _ _ (λ k wrote more rows.
    wrote_as
    (left_by (held c.args.page.now) (column_of c.args.page.now) kept.due kept.run.count kept.run.tag rows
    (ap (λ l. l ++ more) (spelled_split 2 runs) ∙ append_assoc (spelled (take 2 runs)) rest more))
    (wrote_then (c.in_ok-begun.ensures.ok (rest ++ more) rows) (wrote more rows)))
    c.add_step.ensures.ok

pub returns-clause-err : goal.returns-clause-err
returns-clause-err g c =
    let runs : List Run = c.args.runs.now in
    let rest : List ℕ = spelled (take (length runs - 2) (drop 2 runs)) in
    let kept = c.args.kept in
    on_err_weaker c.add_step.result (λ broke more rows.
    broke_as
    (left_by (held c.args.page.now) (column_of c.args.page.now) kept.due kept.run.count kept.run.tag rows
    (ap (λ l. l ++ more) (spelled_split 2 runs) ∙ append_assoc (spelled (take 2 runs)) rest more))
    (wrote_broke (c.in_ok-begun.ensures.ok (rest ++ more) rows) (broke more rows)))
    c.add_step.ensures.err
