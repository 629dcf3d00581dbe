use Rattle.std.proofs.Common.{ℕ, List, take, get_or, sym, subst, arith}
use Rattle.std.proofs.lemmas.List.{take_all, length-replicate}
use Rattle.rle_write.specs.declared.rows.Run.{Run}
use Rattle.rle_write.specs.StepBytes.{bytes_in}
use Rattle.rle_write.specs.Runs.{spelled}
use Rattle.rle_write.specs.Steps.{IsStep}
use Rattle.rle_write.proofs.StepTexts.{step_none}
use Rattle.rle_write.proofs.StretchCells.{spelled_long, spelled_taken}
use Rattle.rle_write.proofs.steps.find_step.Goals as goal

abbrev no_run : Run
no_run = record { count = 0; tag = 0 }

pub loop-run-init : goal.loop-run-init
loop-run-init c = record {
  step = step_none c.args.from (bytes_in c.args.bytes.now) c.requires.empty;
  cell = c.requires.cell;
  short = omega arith;
}

pub next_after-requires-clause-short : goal.next_after-requires-clause-short
next_after-requires-clause-short c =
    omega (arith, c.requires.short, c.loop-run.invariant.short, spelled_long c.args.runs.now c.loop-run.run-index no_run c.loop-run-test.true)

pub loop-run-preserved : goal.loop-run-preserved
loop-run-preserved c =
    let runs : List Run = c.args.runs.now in
    let i : ℕ = c.loop-run.run-index in
    let run : Run = get_or runs i no_run in
    let next = c.in_ok-after.ensures in
    record {
      step = subst (λ tags. IsStep c.args.from tags (bytes_in c.next_after.new.bytes) c.in_ok-after.after) (sym (spelled_taken runs i no_run c.loop-run-test.true))
          (next.next c.args.from (spelled (take i runs)) c.loop-run.invariant.step);
      cell = next.cell;
      short = omega (arith, next.short, length-replicate run.count run.tag, c.loop-run.invariant.short, spelled_long runs i no_run c.loop-run-test.true);
    }

pub returns : goal.returns
returns c =
    let runs : List Run = c.args.runs.now in
    record {
      step = subst (λ l. IsStep c.args.from (spelled l) (bytes_in c.loop-run.bytes) c.loop-run.after) (take_all c.loop-run.run-index runs (omega (arith, c.loop-run-test.false)))
          c.loop-run.invariant.step;
      cell = c.loop-run.invariant.cell;
      short = omega (arith, c.loop-run.invariant.short);
    }
