use Rattle.std.proofs.Common.{ℕ, ◌<◌}
use Rattle.model_circles.specs.Ranks.{NeverRisesAt}
use Rattle.model_circles.proofs.ranking.never_rise.Given as goal

abbrev pub invariant-loop-n : goal.invariant-loop-n
invariant-loop-n l = (m : ℕ) → m < l.n → NeverRisesAt l.models l.ranks m
