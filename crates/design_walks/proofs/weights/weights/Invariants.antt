use Rattle.design_walks.specs.Weights.{AreWeights}
use Rattle.design_walks.proofs.weights.weights.Given as goal

abbrev pub invariant-loop-n : goal.invariant-loop-n
invariant-loop-n l = AreWeights l.design l.order l.n-index l.weights.items
