use Rattle.cell_meaning.specs.Same.{IsRewritten}
use Rattle.cell_rewriting.proofs.rewriting.reduce.Given as goal

abbrev pub invariant-loop : goal.invariant-loop
invariant-loop l = IsRewritten l.fn.now.list l.fn.now.kept.items l.now.list l.now.kept.items
