use Rattle.std.proofs.Common.{ℕ, ◌<◌}
use Rattle.route_tables.specs.Serials.{HasSerial}
use Rattle.route_tables.proofs.serials.have_serials.Given as goal

abbrev pub invariant-loop-n : goal.invariant-loop-n
invariant-loop-n l = (k : ℕ) → k < l.n → HasSerial l.tables.cells l.tables.serials l.tables.width k
