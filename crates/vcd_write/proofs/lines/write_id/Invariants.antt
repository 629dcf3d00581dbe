use Rattle.std.proofs.Common.{ℕ, List, ◌++◌}
use Rattle.ww_base.specs.Pages.{held}
use Rattle.ww_base.specs.Progress.{Wrote}
use Rattle.vcd_write.proofs.Texts.{rest_of}
use Rattle.vcd_write.proofs.lines.write_id.Given as goal

abbrev pub invariant-digits : goal.invariant-digits
invariant-digits g l = (rest : List ℕ) →
    Wrote (g.O.Sink.written l.initial.sink) (g.O.Sink.written l.sink) (g.O.Sink.faults l.initial.sink) (g.O.Sink.faults l.sink)
    (held l.initial.page ++ (rest_of l.initial.left ++ rest)) (held l.page ++ (rest_of l.left ++ rest))

abbrev pub decreases-digits : goal.decreases-digits
decreases-digits g l = l.left
