use Rattle.std.proofs.Common.{ℕ, ◌<◌}
use Rattle.route_tables.specs.Cells.{IsGateThere}
use Rattle.route_tables.proofs.gates.are_gates_there.Given as goal

abbrev pub invariant-loop-k : goal.invariant-loop-k
invariant-loop-k l = (j : ℕ) → j < l.k → IsGateThere l.tables l.states j
