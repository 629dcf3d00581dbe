use Rattle.cell_meaning.specs.Moved.{AreMoved}
use Rattle.cell_rewriting.proofs.moving.Moved.add_all.Given as goal

abbrev pub invariant-loop-number : goal.invariant-loop-number
invariant-loop-number l = AreMoved l.subst.list l.self.cells.items l.self.news.items
