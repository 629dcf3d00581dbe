use Rattle.std.proofs.Common.{ℕ, ◌<◌, ◌≡◌, length}
use Rattle.lists.specs.Items.{list_at}
use Rattle.strand_drawings.proofs.patterns.are_long.Given as goal

abbrev pub invariant-loop-y : goal.invariant-loop-y
invariant-loop-y l = (k : ℕ) → k < l.y → length (list_at l.rows k) ≡ l.width
