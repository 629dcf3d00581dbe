use Rattle.std.proofs.Common.{◌-◌, ℕ, List, ◌++◌, length}
use Rattle.ww_base.specs.Pages.{held}
use Rattle.ww_base.specs.Progress.{Wrote}
use Rattle.vcd_write.specs.Vcd.{waves_in, values_text}
use Rattle.vcd_write.proofs.text.write_values.Given as goal

abbrev pub invariant-loop-n : goal.invariant-loop-n
invariant-loop-n g l = (rest : List ℕ) →
    Wrote (g.O.Sink.written l.initial.sink) (g.O.Sink.written l.sink) (g.O.Sink.faults l.initial.sink) (g.O.Sink.faults l.sink)
    (held l.initial.page ++ (values_text (waves_in l.vcd) l.cycle 0 (length l.vcd.references) ++ rest)) (held l.page ++ (values_text (waves_in l.vcd) l.cycle l.n (length l.vcd.references - l.n) ++ rest))
