use Rattle.std.proofs.Common.{◌≡◌}
use Rattle.latch_loops.specs.Starts.{starts_of_loops}
use Rattle.latch_loops.proofs.loop_starts.starts_of.Given as goal

abbrev pub invariant-loop-number : goal.invariant-loop-number
invariant-loop-number l = l.found.items ≡ starts_of_loops l.plan l.starts l.number
