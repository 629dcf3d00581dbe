use Rattle.std.proofs.Common.{ℕ, ◌<◌}
use Rattle.route_tables.specs.Cells.{IsDrawnInGate}
use Rattle.route_tables.proofs.gates.are_in_gates.Given as goal

abbrev pub invariant-loop-n : goal.invariant-loop-n
invariant-loop-n l = (k : ℕ) → k < l.n → IsDrawnInGate l.tables k
