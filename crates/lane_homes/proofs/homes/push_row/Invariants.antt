use Rattle.std.proofs.Common.{◌≡◌, ◌≤◌, ◌+◌, ◌-◌, ◌++◌, map}
use Rattle.std.specs.List.{range_with_len}
use Rattle.lane_homes.proofs.homes.push_row.Given as goal

abbrev pub invariant-loop-at : goal.invariant-loop-at
invariant-loop-at l = (l.lanes.items ≡ l.fn.lanes.items ++ map (λ i. l.fn.first + i) (range_with_len 0 l.at)) × (l.at ≤ l.fn.count)

abbrev pub decreases-loop-at : goal.decreases-loop-at
decreases-loop-at l = l.fn.count - l.at
