use Rattle.model_circles.specs.Earliest.{IsEarliestUpTo}
use Rattle.model_circles.proofs.circle.look_in.Given as goal

abbrev pub invariant-loop-k : goal.invariant-loop-k
invariant-loop-k l = IsEarliestUpTo l.models l.n l.k l.best
