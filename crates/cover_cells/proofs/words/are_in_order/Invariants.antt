use Rattle.std.proofs.Common.{◌≡◌, drop}
use Rattle.cell_core.specs.Sources.{are_in_order}
use Rattle.cover_cells.proofs.words.are_in_order.Given as goal

abbrev pub invariant-loop-i : goal.invariant-loop-i
invariant-loop-i l = are_in_order l.nets 0 l.i (drop l.i l.cells) ≡ are_in_order l.nets 0 0 l.cells
