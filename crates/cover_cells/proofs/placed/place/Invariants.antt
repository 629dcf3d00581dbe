use Rattle.cover_cells.specs.Placed.{ArePlaced}
use Rattle.cover_cells.proofs.placed.place.Given as goal

abbrev pub invariant-loop-cell : goal.invariant-loop-cell
invariant-loop-cell l = ArePlaced l.fn.list l.list l.sources l.cells l.cell-index l.made.items
