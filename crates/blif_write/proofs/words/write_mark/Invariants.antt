use Rattle.std.proofs.Common.{◌-◌, ℕ, List, ◌++◌}
use Rattle.ww_base.specs.Pages.{held}
use Rattle.ww_base.specs.Progress.{Wrote}
use Rattle.blif_write.specs.Marks.{mark_after}
use Rattle.blif_write.proofs.words.write_mark.Given as goal

abbrev pub invariant-loop : goal.invariant-loop
invariant-loop g l = (rest : List ℕ) →
    Wrote (g.O.Sink.written l.initial.sink) (g.O.Sink.written l.sink) (g.O.Sink.faults l.initial.sink) (g.O.Sink.faults l.sink)
    (held l.initial.page ++ (mark_after l.leading ++ rest)) (held l.page ++ (mark_after (l.leading - l.counter) ++ rest))
