use Rattle.std.proofs.Common.{◌≡◌, ◌≤◌, ◌+◌, ◌++◌, length, drop}
use Rattle.row_placer.specs.Uses.{uses_of, owed, AreCounted}
use Rattle.row_placer.proofs.counting.count_all.Given as goal

abbrev pub invariant-loop-at : goal.invariant-loop-at
invariant-loop-at l =
    AreCounted l.left (uses_of (drop l.at l.fn.gates) ++ l.fn.ports) × (length l.left ≡ l.fn.base + length l.fn.gates) × (l.owed ≡ owed l.fn.ports (l.fn.base + l.at) (drop l.at l.fn.gates)) × (l.at ≤ length l.fn.gates)
    × (l.owed + l.at ≤ length l.fn.gates + length l.fn.ports + 1)

abbrev pub decreases-loop-at : goal.decreases-loop-at
decreases-loop-at l = l.at
