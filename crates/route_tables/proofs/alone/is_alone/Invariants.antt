use Rattle.std.proofs.Common.{ℕ, ◌<◌, ◌+◌, pos, ◌-ℤ◌}
use Rattle.route_tables.specs.Tables.{serial}
use Rattle.route_tables.specs.Around.{IsOneOf}
use Rattle.route_tables.proofs.alone.is_alone.Given as goal

abbrev pub invariant-loop-j : goal.invariant-loop-j
invariant-loop-j l =
    (j : ℕ) → j < l.j → (i : ℕ) → i < 3 → IsOneOf l.serials (serial l.tables (pos (l.serials.cell.0 + i) -ℤ pos 1, pos (l.serials.cell.1 + j) -ℤ pos 1))
