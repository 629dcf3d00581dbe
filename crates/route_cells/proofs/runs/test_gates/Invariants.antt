use Rattle.std.proofs.Common.{ℕ, ◌<◌}
use Rattle.route_tables.specs.Runs.{FitsItsPeriod, HasPortSources}
use Rattle.route_cells.proofs.runs.test_gates.Given as goal

abbrev pub invariant-loop-k : goal.invariant-loop-k
invariant-loop-k l =
    ((j : ℕ) → j < l.k → FitsItsPeriod l.t l.period j) × ((j : ℕ) → j < l.k → HasPortSources l.t j)
