use Rattle.std.proofs.Common.{reverse}
use Rattle.model_circles.proofs.Trails.{IsTrail}
use Rattle.model_circles.proofs.search.Search.way.Given as goal

abbrev pub invariant-loop-at : goal.invariant-loop-at
invariant-loop-at l = IsTrail l.models l.self.found.items l.place l.at (reverse l.way.items)

abbrev pub decreases-loop-at : goal.decreases-loop-at
decreases-loop-at l = l.at
