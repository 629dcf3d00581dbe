use Rattle.cell_rewriting.specs.Substitution.{AreEqual, Extends}
use Rattle.cell_rewriting.proofs.substitution.Substitution.replace_all.Given as goal

abbrev pub invariant-loop-new : goal.invariant-loop-new
invariant-loop-new l = AreEqual l.self.list l.self.instead.items × Extends l.fn.self.list l.self.list
