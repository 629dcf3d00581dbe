use Rattle.std.proofs.Common.{◌-◌, ℕ, List, ◌++◌}
use Rattle.ww_base.specs.Pages.{held}
use Rattle.ww_base.specs.Progress.{Wrote}
use Rattle.vcd_write.specs.Vcd.{waves_in, blocks_text}
use Rattle.vcd_write.proofs.text.write_blocks.Given as goal

abbrev pub invariant-loop-cycle : goal.invariant-loop-cycle
invariant-loop-cycle g l = (rest : List ℕ) →
    Wrote (g.O.Sink.written l.initial.sink) (g.O.Sink.written l.sink) (g.O.Sink.faults l.initial.sink) (g.O.Sink.faults l.sink)
    (held l.initial.page ++ (blocks_text (waves_in l.vcd) 0 l.vcd.cycles ++ rest)) (held l.page ++ (blocks_text (waves_in l.vcd) l.cycle (l.vcd.cycles - l.cycle) ++ rest))
