use Rattle.std.proofs.Common.{ℕ, suc, ◌<◌}
use Rattle.gate_laws.specs.Wires.{IsNear}
use Rattle.route_tables.specs.Tables.{wire_path}
use Rattle.route_tables.proofs.wires.goes_on.Given as goal

abbrev pub invariant-loop-i : goal.invariant-loop-i
invariant-loop-i l =
    (j : ℕ) → j < l.i → IsNear (wire_path l.tables l.wire j) (wire_path l.tables l.wire (suc j))
