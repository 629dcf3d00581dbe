use Rattle.std.proofs.Common.{◌+◌, ◌∙◌, ℕ, List, ◌++◌, drop, replicate, get_or, ap, arith, append_assoc}
use Rattle.ww_rule.specs.declared.pattern.State.{State}
use Rattle.rle_write.specs.declared.rows.Run.{Run}
use Rattle.rle_write.specs.Runs.{spelled}
use Rattle.ww_base.specs.Pages.{held, column_of}
use Rattle.rle_write.proofs.Lefts.{left_by}
use Rattle.rle_write.proofs.StretchCells.{spelled_next, spelled_long, spelled_none}
use Rattle.lists.proofs.Results.{on_err}
use Rattle.ww_base.proofs.Steps.{wrote_then, wrote_broke, wrote_to}
use Rattle.rle_write.proofs.copies.add_runs.Goals as goal

abbrev no_run : Run
no_run = record { count = 0; tag = 0 }

pub loop-run-preserved : goal.loop-run-preserved
loop-run-preserved g c =
    let runs : List Run = c.args.runs.now in
    let i : ℕ = c.loop-run.run-index in
    let rest : List ℕ = spelled (drop (i + 1) runs) in
    let next = spelled_next runs i no_run c.loop-run-test.true in
    let long = spelled_long runs i no_run c.loop-run-test.true in
    let kept = c.loop-run.kept in
    record {
      fewer = omega (arith, c.in_ok-kept.ensures.fewer, c.loop-run.invariant.fewer);
      short = omega (arith, c.in_ok-kept.ensures.short, c.loop-run.invariant.short, long);
      cell = c.in_ok-kept.ensures.cell;
      wrote = λ more rows.
          wrote_then
          (wrote_to
          (left_by (held c.loop-run.page) (column_of c.loop-run.page) kept.due kept.run.count kept.run.tag rows
          (ap (λ l. l ++ more) next ∙ append_assoc (replicate (get_or runs i no_run).count (get_or runs i no_run).tag) rest more))
          (c.loop-run.invariant.wrote more rows))
          (c.in_ok-kept.ensures.ok (rest ++ more) rows);
    }

pub returns-in_err-kept-clause-err : goal.returns-in_err-kept-clause-err
returns-in_err-kept-clause-err g c =
    let runs : List Run = c.args.runs.now in
    let i : ℕ = c.loop-run.run-index in
    let rest : List ℕ = spelled (drop (i + 1) runs) in
    let next = spelled_next runs i no_run c.loop-run-test.true in
    let kept = c.loop-run.kept in
    let f = λ (more : List ℕ) (rows : List (List State)).
    wrote_broke
    (wrote_to
    (left_by (held c.loop-run.page) (column_of c.loop-run.page) kept.due kept.run.count kept.run.tag rows
    (ap (λ l. l ++ more) next ∙ append_assoc (replicate (get_or runs i no_run).count (get_or runs i no_run).tag) rest more))
    (c.loop-run.invariant.wrote more rows))
    (c.in_err-kept.ensures.err (rest ++ more) rows) in
    on_err _ f

pub returns-clause-ok : goal.returns-clause-ok
returns-clause-ok g c more rows =
    let none = spelled_none c.args.runs.now c.loop-run.run-index c.loop-run-test.false in
    let kept = c.loop-run.kept in
    wrote_to
    (left_by (held c.loop-run.page) (column_of c.loop-run.page) kept.due kept.run.count kept.run.tag rows (ap (λ l. l ++ more) none))
    (c.loop-run.invariant.wrote more rows)
