use Rattle.std.proofs.Common.{ℕ, List, ◌++◌, drop}
use Rattle.ww_base.specs.Pages.{held}
use Rattle.ww_base.specs.Progress.{Wrote}
use Rattle.program_runs.specs.Refusals.{spaced_numbers}
use Rattle.program_runs.proofs.told.put_numbers.Given as goal

abbrev pub invariant-loop-number : goal.invariant-loop-number
invariant-loop-number g l = (rest : List ℕ) →
    Wrote (g.E.Sink.written l.initial.err) (g.E.Sink.written l.err) (g.E.Sink.faults l.initial.err) (g.E.Sink.faults l.err)
    (held l.initial.page ++ (spaced_numbers l.numbers ++ rest)) (held l.page ++ (spaced_numbers (drop l.number-index l.numbers) ++ rest))
