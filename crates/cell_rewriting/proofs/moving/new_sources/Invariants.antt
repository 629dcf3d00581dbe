use Rattle.std.proofs.Common.{◌≡◌, map, take, Some}
use Rattle.cell_meaning.specs.Moved.{new_source}
use Rattle.cell_rewriting.proofs.moving.new_sources.Given as goal

abbrev pub invariant-loop-src : goal.invariant-loop-src
invariant-loop-src l = map (new_source l.news) (take l.src-index l.sources) ≡ map (λ s. Some s) l.found.items
