use Rattle.std.proofs.Common.{ℕ, ◌+◌, ◌<◌, ◌≡◌, length}
use Rattle.route_tables.specs.Tables.{group}
use Rattle.route_tables.proofs.wires.is_grouped.Given as goal

abbrev pub invariant-loop-i : goal.invariant-loop-i
invariant-loop-i l = (j : ℕ) → j < l.i → group l.tables (l.wire.start + j) ≡ length l.tables.gates + l.w
