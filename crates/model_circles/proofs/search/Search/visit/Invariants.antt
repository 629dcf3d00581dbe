use Rattle.model_circles.proofs.Finding.{IsVisiting}
use Rattle.model_circles.proofs.search.Search.visit.Given as goal

abbrev pub invariant-loop-line : goal.invariant-loop-line
invariant-loop-line l = IsVisiting l.models l.first l.at l.n l.line l.fn.self l.self
