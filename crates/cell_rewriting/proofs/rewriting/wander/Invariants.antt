use Rattle.cell_meaning.specs.Same.{IsRewritten}
use Rattle.cell_rewriting.proofs.rewriting.wander.Given as goal

abbrev pub invariant-loop-at : goal.invariant-loop-at
invariant-loop-at l = IsRewritten l.fn.now.list l.fn.now.kept.items l.now.list l.now.kept.items
