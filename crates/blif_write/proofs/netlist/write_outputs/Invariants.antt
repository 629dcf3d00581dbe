use Rattle.std.proofs.Common.{ℕ, ◌++◌, drop}
use Rattle.ww_base.specs.Pages.{held}
use Rattle.ww_base.specs.Progress.{Wrote}
use Rattle.lifted_designs.specs.Lines.{lines_of_outputs}
use Rattle.blif_write.specs.Text.{worded_text}
use Rattle.blif_write.specs.Words.{mark_in}
use Rattle.blif_write.proofs.netlist.write_outputs.Given as goal

abbrev pub invariant-loop-number : goal.invariant-loop-number
invariant-loop-number g l = (n : ℕ) →
    Wrote (g.O.Sink.written l.initial.sink) (g.O.Sink.written l.sink) (g.O.Sink.faults l.initial.sink) (g.O.Sink.faults l.sink)
    (held l.initial.page ++ worded_text (lines_of_outputs (mark_in l.lift) l.lift.ins n l.lift.outs l.lift.list.outs)) (held l.page ++ worded_text (lines_of_outputs (mark_in l.lift) l.lift.ins n (drop l.number l.lift.outs) (drop l.number l.lift.list.outs)))
