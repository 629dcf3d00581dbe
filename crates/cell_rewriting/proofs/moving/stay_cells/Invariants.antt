use Rattle.std.proofs.Common.{take}
use Rattle.cell_meaning.specs.Moved.{goes_to}
use Rattle.cell_meaning.proofs.Moves.{DoStay}
use Rattle.cell_rewriting.proofs.moving.stay_cells.Given as goal

abbrev pub invariant-loop-src : goal.invariant-loop-src
invariant-loop-src l = DoStay l.old l.new (goes_to l.news) (take l.src-index l.sources)
