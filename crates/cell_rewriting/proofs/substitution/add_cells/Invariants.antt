use Rattle.cell_rewriting.specs.Substitution.{Extends}
use Rattle.cell_rewriting.proofs.substitution.add_cells.Given as goal

abbrev pub invariant-loop-cell : goal.invariant-loop-cell
invariant-loop-cell l = Extends l.fn.list l.list
