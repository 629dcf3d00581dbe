use Rattle.std.proofs.Common.{◌<◌, ℕ}
use Rattle.routed_circuits.specs.Runs.{src_at}
use Rattle.list_matching.specs.Matched.{StandsForLatch, stand_in}
use Rattle.list_matching.proofs.matched.latches_stand.Given as goal

abbrev pub invariant-loop-l : goal.invariant-loop-l
invariant-loop-l l =
    (k : ℕ) → k < l.l → StandsForLatch l.found l.wanted (stand_in l.cells l.latches) k (src_at l.latches k)
