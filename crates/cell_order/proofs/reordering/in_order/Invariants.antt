use Rattle.cell_order.specs.Renamed.{AreRenamed}
use Rattle.cell_order.proofs.reordering.in_order.Given as goal

abbrev pub invariant-loop-number : goal.invariant-loop-number
invariant-loop-number l = AreRenamed l.list l.moved.cells.items l.moved.numbers.items
