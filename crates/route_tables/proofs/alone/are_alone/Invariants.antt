use Rattle.std.proofs.Common.{ℕ, ◌<◌}
use Rattle.route_tables.specs.Tables.{table_wire}
use Rattle.route_tables.specs.Cells.{IsAlone}
use Rattle.route_tables.proofs.alone.are_alone.Given as goal

abbrev pub invariant-loop-w : goal.invariant-loop-w
invariant-loop-w l =
    (v : ℕ) → v < l.w → (i : ℕ) → i < (table_wire l.tables v).size → IsAlone l.tables (table_wire l.tables v) i
