use Rattle.cell_rewriting.specs.Substitution.{AreEquivalent}
use Rattle.cell_rewriting.proofs.substitution.Substitution.standing.Given as goal

abbrev pub invariant-loop : goal.invariant-loop
invariant-loop l = AreEquivalent l.self.list l.fn.src l.now
