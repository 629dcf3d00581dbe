use Rattle.cell_rewriting.specs.Words.{AreWords}
use Rattle.cell_rewriting.proofs.words.cone_words.Given as goal

abbrev pub invariant-loop-number : goal.invariant-loop-number
invariant-loop-number l = AreWords l.subst.list l.leaves l.words.items
