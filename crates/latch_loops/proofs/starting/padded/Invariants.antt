use Rattle.std.proofs.Common.{◌-◌, length}
use Rattle.latch_loops.proofs.Padding.{IsPaddedSoFar}
use Rattle.latch_loops.proofs.starting.padded.Given as goal

abbrev pub invariant-loop-alloc : goal.invariant-loop-alloc
invariant-loop-alloc l = IsPaddedSoFar l.fn.size l.fn.columns.items l.columns.items

abbrev pub decreases-loop-alloc : goal.decreases-loop-alloc
decreases-loop-alloc l = l.size - length l.columns.items
