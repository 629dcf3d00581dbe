use Rattle.std.proofs.Common.{◌<◌, length}
use Rattle.row_placer.proofs.lanes.Lanes.free_above.Given as goal

abbrev pub invariant-loop-at : goal.invariant-loop-at
invariant-loop-at l = l.at < length l.self.tags.items

abbrev pub decreases-loop-at : goal.decreases-loop-at
decreases-loop-at l = l.at
