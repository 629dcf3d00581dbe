use Rattle.std.proofs.Common.{◌≡◌, ◌+◌, ◌-◌, ◌∙◌, ℕ, List, ◌++◌, ap, sym, subst, arith, append_assoc}
use Rattle.std.specs.Prelude.{IfSome}
use Rattle.ww_rule.specs.declared.pattern.State.{State}
use Rattle.rle_write.specs.Runs.{repeated, spelled}
use Rattle.rle_write.specs.Steps.{IsStepOver}
use Rattle.ww_base.specs.Pages.{held, column_of}
use Rattle.rle_write.proofs.Lefts.{left_by}
use Rattle.rle_write.proofs.CopiedTags.{repeated_next, repeated_long}
use Rattle.lists.proofs.Results.{on_err}
use Rattle.ww_base.proofs.Steps.{wrote_then, wrote_broke, wrote_to}
use Rattle.rle_write.proofs.copies.add_steps.Goals as goal

pub add_step-requires-clause-step : goal.add_step-requires-clause-step
add_step-requires-clause-step g c =
    subst (λ bytes. IfSome c.step_for-step.result (λ s. IsStepOver s.from c.args.runs.now bytes s.after)) (sym c.bytes.ensures) c.step_for-step.ensures

pub add_step-requires-clause-short : goal.add_step-requires-clause-short
add_step-requires-clause-short g c =
    omega (arith, c.requires.short, c.loop.invariant.short, repeated_long c.args.count c.loop.counter (spelled c.args.runs.now) c.loop-test.true)

pub loop-preserved : goal.loop-preserved
loop-preserved g c =
    let tags : List ℕ = spelled c.args.runs.now in
    let n : ℕ = c.args.count in
    let i : ℕ = c.loop.counter in
    let rest : List ℕ = repeated (n - (i + 1)) tags in
    let next = repeated_next n i tags c.loop-test.true in
    let kept = c.loop.kept in
    record {
      fewer = omega (arith, c.in_ok-kept.ensures.fewer, c.loop.invariant.fewer);
      short = omega (arith, c.in_ok-kept.ensures.short, c.loop.invariant.short, repeated_long n i tags c.loop-test.true);
      cell = c.in_ok-kept.ensures.cell;
      wrote = λ more rows.
          wrote_then
          (wrote_to
          (left_by (held c.loop.page) (column_of c.loop.page) kept.due kept.run.count kept.run.tag rows
          (ap (λ l. l ++ more) next ∙ append_assoc tags rest more))
          (c.loop.invariant.wrote more rows))
          (c.in_ok-kept.ensures.ok (rest ++ more) rows);
    }

pub returns-in_err-kept-clause-err : goal.returns-in_err-kept-clause-err
returns-in_err-kept-clause-err g c =
    let tags : List ℕ = spelled c.args.runs.now in
    let n : ℕ = c.args.count in
    let i : ℕ = c.loop.counter in
    let rest : List ℕ = repeated (n - (i + 1)) tags in
    let next = repeated_next n i tags c.loop-test.true in
    let kept = c.loop.kept in
    let f = λ (more : List ℕ) (rows : List (List State)).
    wrote_broke
    (wrote_to
    (left_by (held c.loop.page) (column_of c.loop.page) kept.due kept.run.count kept.run.tag rows
    (ap (λ l. l ++ more) next ∙ append_assoc tags rest more))
    (c.loop.invariant.wrote more rows))
    (c.in_err-kept.ensures.err (rest ++ more) rows) in
    on_err _ f

pub returns-clause-ok : goal.returns-clause-ok
returns-clause-ok g c more rows =
    let tags : List ℕ = spelled c.args.runs.now in
    let none : c.args.count - c.loop.counter ≡ 0 = omega (arith, c.loop-test.false) in
    let kept = c.loop.kept in
    wrote_to
    (left_by (held c.loop.page) (column_of c.loop.page) kept.due kept.run.count kept.run.tag rows (ap (λ n. repeated n tags ++ more) none))
    (c.loop.invariant.wrote more rows)
