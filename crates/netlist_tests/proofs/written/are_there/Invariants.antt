use Rattle.std.proofs.Common.{◌≡◌, drop}
use Rattle.cell_core.specs.Sources.{are_there}
use Rattle.netlist_tests.proofs.written.are_there.Given as goal

abbrev pub invariant-loop-i : goal.invariant-loop-i
invariant-loop-i l = are_there l.inputs l.latches l.cells (drop l.i l.sources) ≡ are_there l.inputs l.latches l.cells l.sources
