use Rattle.std.proofs.Common.{ℕ, ◌<◌, ◌+◌, pos, ◌-ℤ◌, length}
use Rattle.route_tables.specs.Serials.{serial_at, MayTouch}
use Rattle.route_tables.proofs.serials.row_touches_well.Given as goal

abbrev pub invariant-loop-i : goal.invariant-loop-i
invariant-loop-i l =
    (i : ℕ) → i < l.i → MayTouch l.tables.groups (length l.tables.gates) l.n (serial_at l.tables.serials l.tables.width (pos (l.cell.0 + i) -ℤ pos 1) (pos (l.cell.1 + l.j) -ℤ pos 1))
