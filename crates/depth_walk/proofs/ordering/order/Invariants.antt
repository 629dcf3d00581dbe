use Rattle.std.proofs.Common.{ℕ, ◌≡◌, ◌≢◌, ◌<◌, []}
use Rattle.depth_walk.specs.Walk.{IsWalkOf, mark_of}
use Rattle.depth_walk.specs.declared.walk.Mark.TheVariants.{Unseen}
use Rattle.depth_walk.proofs.ordering.order.Given as goal

abbrev pub invariant-loop-n : goal.invariant-loop-n
invariant-loop-n l = IsWalkOf l.links l.walk × (l.walk.stack.items ≡ []) × ((m : ℕ) → m < l.n → mark_of l.walk.marks.items m ≢ Unseen)
