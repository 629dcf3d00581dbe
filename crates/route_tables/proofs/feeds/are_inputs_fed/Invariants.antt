use Rattle.std.proofs.Common.{ℕ, ◌<◌}
use Rattle.route_tables.specs.Cells.{IsFedRightly}
use Rattle.route_tables.proofs.feeds.are_inputs_fed.Given as goal

abbrev pub invariant-loop-input : goal.invariant-loop-input
invariant-loop-input l =
    (i : ℕ) → i < l.input → IsFedRightly l.tables (record { gate = l.gate; input = i })
