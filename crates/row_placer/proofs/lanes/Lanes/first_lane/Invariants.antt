use Rattle.std.proofs.Common.{◌≡◌, ◌-◌, count_by, take, length}
use Rattle.row_placer.specs.Told.{is_tag}
use Rattle.row_placer.proofs.lanes.Lanes.first_lane.Given as goal

abbrev pub invariant-loop-lane : goal.invariant-loop-lane
invariant-loop-lane l = count_by (is_tag l.fn.value l.fn.role) (take l.lane l.fn.self.tags.items) ≡ 0

abbrev pub decreases-loop-lane : goal.decreases-loop-lane
decreases-loop-lane l = length l.fn.self.tags.items - l.lane
