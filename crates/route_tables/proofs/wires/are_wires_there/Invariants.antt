use Rattle.std.proofs.Common.{ℕ, ◌<◌}
use Rattle.route_tables.specs.Tables.{table_wire}
use Rattle.route_tables.specs.Cells.{IsWireThere}
use Rattle.route_tables.proofs.wires.are_wires_there.Given as goal

abbrev pub invariant-loop-w : goal.invariant-loop-w
invariant-loop-w l = (v : ℕ) → v < l.w → IsWireThere l.tables v (table_wire l.tables v)
