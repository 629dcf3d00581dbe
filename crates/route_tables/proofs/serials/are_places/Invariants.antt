use Rattle.std.proofs.Common.{ℕ, ◌<◌}
use Rattle.route_tables.specs.Serials.{IsListedAt}
use Rattle.route_tables.proofs.serials.are_places.Given as goal

abbrev pub invariant-loop-k : goal.invariant-loop-k
invariant-loop-k l = (j : ℕ) → j < l.k → IsListedAt l.tables.cells l.states l.tables.serials l.tables.width j
