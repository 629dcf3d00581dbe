use Rattle.std.proofs.Common.{ℕ, ◌<◌, ◌≢◌, ◌-◌, length, get_or}
use Rattle.cell_core.specs.declared.cells.Src.{Src}
use Rattle.cell_core.specs.declared.cells.Src.TheVariants.{Zero}
use Rattle.row_placer.proofs.reading.names_zero.Given as goal

abbrev pub invariant-loop-at : goal.invariant-loop-at
invariant-loop-at l = (k : ℕ) (d : Src) → k < l.at → get_or l.fn.srcs k d ≢ Zero

abbrev pub decreases-loop-at : goal.decreases-loop-at
decreases-loop-at l = length l.fn.srcs - l.at
