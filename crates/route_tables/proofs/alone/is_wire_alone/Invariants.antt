use Rattle.std.proofs.Common.{ℕ, ◌<◌}
use Rattle.route_tables.specs.Cells.{IsAlone}
use Rattle.route_tables.proofs.alone.is_wire_alone.Given as goal

abbrev pub invariant-loop-i : goal.invariant-loop-i
invariant-loop-i l = (j : ℕ) → j < l.i → IsAlone l.tables l.wire j
