use Rattle.std.proofs.Common.{ℕ, ◌<◌, ◌+◌, pos, ◌-ℤ◌}
use Rattle.route_tables.specs.Tables.{serial}
use Rattle.route_tables.specs.Around.{IsOneOf}
use Rattle.route_tables.proofs.alone.is_row_alone.Given as goal

abbrev pub invariant-loop-i : goal.invariant-loop-i
invariant-loop-i l =
    (i : ℕ) → i < l.i → IsOneOf l.serials (serial l.tables (pos (l.serials.cell.0 + i) -ℤ pos 1, pos (l.serials.cell.1 + l.j) -ℤ pos 1))
