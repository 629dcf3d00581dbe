use Rattle.cover_cells.proofs.Products.{ComesTo}
use Rattle.cover_cells.proofs.rows.product.Given as goal

abbrev pub invariant-loop-i : goal.invariant-loop-i
invariant-loop-i l = ComesTo l.fn.list l.list l.sources l.row l.initial.product l.i l.product
