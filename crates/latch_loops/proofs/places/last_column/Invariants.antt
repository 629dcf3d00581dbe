use Rattle.std.proofs.Common.{◌≡◌, ◌≤◌, ◌+◌, take}
use Rattle.column_packer.specs.Numbers.{used_by}
use Rattle.latch_loops.proofs.places.last_column.Given as goal

abbrev pub invariant-loop-left : goal.invariant-loop-left
invariant-loop-left l = (l.left ≤ l.n + 1) × (used_by (take l.left l.instrs) l.lane ≡ used_by (take (l.n + 1) l.instrs) l.lane)

abbrev pub decreases-loop-left : goal.decreases-loop-left
decreases-loop-left l = l.left
