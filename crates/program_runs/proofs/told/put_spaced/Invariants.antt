use Rattle.std.proofs.Common.{ℕ, List, ◌++◌, drop}
use Rattle.ww_base.specs.Pages.{held}
use Rattle.ww_base.specs.Progress.{Wrote}
use Rattle.program_runs.specs.Refusals.{after_blanks}
use Rattle.program_runs.proofs.told.put_spaced.Given as goal

abbrev pub invariant-loop-name : goal.invariant-loop-name
invariant-loop-name g l = (rest : List ℕ) →
    Wrote (g.E.Sink.written l.initial.err) (g.E.Sink.written l.err) (g.E.Sink.faults l.initial.err) (g.E.Sink.faults l.err)
    (held l.initial.page ++ (after_blanks l.names ++ rest)) (held l.page ++ (after_blanks (drop l.name-index l.names) ++ rest))
