use Rattle.std.proofs.Common.{ℕ, List, ◌++◌, drop}
use Rattle.ww_base.specs.Pages.{held}
use Rattle.ww_base.specs.Progress.{Wrote}
use Rattle.blif_text.specs.declared.logical.Logical.{Logical}
use Rattle.lifted_designs.specs.Lines.{latch_lines}
use Rattle.blif_write.specs.Text.{worded_text}
use Rattle.blif_write.specs.Words.{mark_in}
use Rattle.blif_write.proofs.netlist.write_latches.Given as goal

abbrev pub invariant-loop-number : goal.invariant-loop-number
invariant-loop-number g l = (n : ℕ) (more : List Logical) →
    Wrote (g.O.Sink.written l.initial.sink) (g.O.Sink.written l.sink) (g.O.Sink.faults l.initial.sink) (g.O.Sink.faults l.sink)
    (held l.initial.page ++ worded_text (latch_lines (mark_in l.lift) l.lift.ins n 0 l.lift.list.latches l.lift.list.starts more)) (held l.page ++ worded_text (latch_lines (mark_in l.lift) l.lift.ins n l.number (drop l.number l.lift.list.latches) (drop l.number l.lift.list.starts) more))
