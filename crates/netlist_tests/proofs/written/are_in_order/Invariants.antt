use Rattle.std.proofs.Common.{◌≡◌, drop}
use Rattle.cell_core.specs.Sources.{are_in_order}
use Rattle.netlist_tests.proofs.written.are_in_order.Given as goal

abbrev pub invariant-loop-made : goal.invariant-loop-made
invariant-loop-made l = are_in_order l.inputs l.latches l.made (drop l.made l.cells) ≡ are_in_order l.inputs l.latches 0 l.cells
