use Rattle.std.proofs.Common.{◌≤◌, ◌-◌, take, length}
use Rattle.row_placer.specs.Settling.{Exchanges}
use Rattle.row_placer.proofs.settling.exchanged.Given as goal

abbrev pub invariant-loop-next : goal.invariant-loop-next
invariant-loop-next l = record {
  exchanged : Exchanges l.fn.tags (take l.next l.fn.swaps) l.after.items;
  within : l.next ≤ length l.fn.swaps;
}

abbrev pub decreases-loop-next : goal.decreases-loop-next
decreases-loop-next l = length l.fn.swaps - l.next
