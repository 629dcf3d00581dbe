use Rattle.std.proofs.Common.{◌≢◌}
use Rattle.depth_walk.specs.Walk.{IsWalkOf, AreStillSeen, work, mark_of}
use Rattle.depth_walk.specs.declared.walk.Mark.TheVariants.{Unseen}
use Rattle.depth_walk.proofs.walk.Walk.reach.Given as goal

abbrev pub invariant-loop-top : goal.invariant-loop-top
invariant-loop-top l = IsWalkOf l.links l.self × AreStillSeen l.fn.self.marks.items l.self.marks.items × (mark_of l.self.marks.items l.n ≢ Unseen)

abbrev pub decreases-loop-top : goal.decreases-loop-top
decreases-loop-top l = work l.self.marks.items l.self.stack.items
