use Rattle.cover_cells.proofs.Tabled.{HasWords}
use Rattle.cover_cells.proofs.words.list_words.Given as goal

abbrev pub invariant-loop-cell : goal.invariant-loop-cell
invariant-loop-cell l = HasWords l.nets l.words.items l.cell-index l.cells
