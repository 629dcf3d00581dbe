use Rattle.std.proofs.Common.{◌≡◌, take, map}
use Rattle.cell_meaning.specs.Moved.{goes_to}
use Rattle.cell_polarity.proofs.high.all_gone.Given as goal

abbrev pub invariant-loop-src : goal.invariant-loop-src
invariant-loop-src l = l.found.items ≡ map (goes_to l.news) (take l.src-index l.sources)
