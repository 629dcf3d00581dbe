use Rattle.std.proofs.Common.{◌≤◌, ◌-◌, take, length}
use Rattle.row_placer.specs.Settling.{came_from}
use Rattle.row_placer.specs.Steps.{KeepsGates, MovesTags}
use Rattle.row_placer.proofs.lanes.Lanes.swap_all.Given as goal

abbrev pub invariant-loop-next : goal.invariant-loop-next
invariant-loop-next l = record {
  moved : MovesTags l.fn.self l.self (came_from (take l.next l.fn.swaps)) l.next;
  within : l.next ≤ length l.fn.swaps;
  kept : KeepsGates l.fn.self l.self;
}

abbrev pub decreases-loop-next : goal.decreases-loop-next
decreases-loop-next l = length l.fn.swaps - l.next
