use Rattle.std.proofs.Common.{ℕ, ◌<◌, ◌≤◌, get_or}
use Rattle.model_index.specs.Numbers.{Places}
use Rattle.model_circles.proofs.ranking.never_rises_at.Given as goal

abbrev pub invariant-loop-line : goal.invariant-loop-line
invariant-loop-line l = (k inner : ℕ) → k < l.line → Places l.models l.n k inner → get_or l.ranks inner 0 ≤ get_or l.ranks l.n 0
