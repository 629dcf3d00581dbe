use Rattle.std.proofs.Common.{◌≡◌, map, take, Some}
use Rattle.cell_order.specs.Renamed.{renamed}
use Rattle.cell_order.proofs.moving.Moved.sources.Given as goal

abbrev pub invariant-loop-src : goal.invariant-loop-src
invariant-loop-src l = map (renamed l.self.numbers.items) (take l.src-index l.sources) ≡ map (λ s. Some s) l.found.items
