use Rattle.std.proofs.Common.{ℕ, List, ◌++◌, drop}
use Rattle.ww_base.specs.Pages.{held}
use Rattle.ww_base.specs.Progress.{Wrote}
use Rattle.blif_write.specs.Words.{words_after_spaces}
use Rattle.blif_write.proofs.lines.write_names.Given as goal

abbrev pub invariant-loop-name : goal.invariant-loop-name
invariant-loop-name g l = (rest : List ℕ) →
    Wrote (g.O.Sink.written l.initial.sink) (g.O.Sink.written l.sink) (g.O.Sink.faults l.initial.sink) (g.O.Sink.faults l.sink)
    (held l.initial.page ++ (words_after_spaces (λ name. name) l.names ++ rest)) (held l.page ++ (words_after_spaces (λ name. name) (drop l.name-index l.names) ++ rest))
