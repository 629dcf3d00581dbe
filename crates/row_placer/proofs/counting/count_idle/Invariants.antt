use Rattle.std.proofs.Common.{◌≡◌, ◌≤◌, ◌-◌}
use Rattle.row_placer.specs.Uses.{idle}
use Rattle.row_placer.proofs.counting.count_idle.Given as goal

abbrev pub invariant-loop-value : goal.invariant-loop-value
invariant-loop-value l = (l.idle ≡ idle l.fn.left.items l.value) × (l.idle ≤ l.value) × (l.value ≤ l.fn.values)

abbrev pub decreases-loop-value : goal.decreases-loop-value
decreases-loop-value l = l.fn.values - l.value
