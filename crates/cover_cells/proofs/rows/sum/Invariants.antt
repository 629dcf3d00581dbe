use Rattle.cover_cells.proofs.Sums.{SumsTo}
use Rattle.cover_cells.proofs.rows.sum.Given as goal

abbrev pub invariant-loop-row : goal.invariant-loop-row
invariant-loop-row l = SumsTo l.fn.list l.list l.sources l.rows l.row-index l.sum
