use Rattle.std.proofs.Common.{ℕ, ◌<◌}
use Rattle.route_tables.specs.Cells.{FeedsItsEnd}
use Rattle.route_tables.proofs.feeds.are_ends_fed.Given as goal

abbrev pub invariant-loop-w : goal.invariant-loop-w
invariant-loop-w l = (v : ℕ) → v < l.w → FeedsItsEnd l.tables v
