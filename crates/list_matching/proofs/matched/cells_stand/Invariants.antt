use Rattle.std.proofs.Common.{◌<◌, ℕ}
use Rattle.cell_meaning.specs.Same.{cell_over}
use Rattle.routed_circuits.specs.Runs.{src_at}
use Rattle.list_matching.specs.Matched.{StandsForCell, made_at, stand_in}
use Rattle.list_matching.proofs.matched.cells_stand.Given as goal

abbrev pub invariant-loop-n : goal.invariant-loop-n
invariant-loop-n l =
    (k : ℕ) → k < l.n → StandsForCell l.wanted (src_at l.cells k) (cell_over (stand_in l.cells l.latches) (made_at l.found k))
