use Rattle.std.proofs.Common.{ℕ, ◌<◌, length}
use Rattle.route_tables.specs.Tables.{sourced_gate, table_gate}
use Rattle.route_tables.specs.Cells.{IsFedRightly}
use Rattle.route_tables.proofs.feeds.are_gates_fed.Given as goal

abbrev pub invariant-loop-k : goal.invariant-loop-k
invariant-loop-k l =
    (j : ℕ) → j < l.k → (i : ℕ) → i < length (sourced_gate l.tables (table_gate l.tables j)).placed.gate.ins → IsFedRightly l.tables (record { gate = j; input = i })
