use Rattle.model_circles.specs.Earliest.{IsEarliestBefore}
use Rattle.model_circles.proofs.circle.earliest.Given as goal

abbrev pub invariant-loop-n : goal.invariant-loop-n
invariant-loop-n l = IsEarliestBefore l.models l.n l.best
