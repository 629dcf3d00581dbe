use Rattle.netlist_flatten.proofs.Controls.{MarkedBefore}
use Rattle.netlist_flatten.proofs.ports.control_classes.Given as goal

abbrev pub invariant-loop-latch : goal.invariant-loop-latch
invariant-loop-latch l = MarkedBefore l.classes l.latches l.latch-index l.marks.items
