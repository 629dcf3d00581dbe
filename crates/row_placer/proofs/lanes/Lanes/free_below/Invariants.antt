use Rattle.std.proofs.Common.{◌-◌, length}
use Rattle.row_placer.proofs.lanes.Lanes.free_below.Given as goal

abbrev pub decreases-loop-at : goal.decreases-loop-at
decreases-loop-at l = length l.self.tags.items - l.at
