use Rattle.std.proofs.Common.{ℕ, ◌<◌, ◌+◌, pos, ◌-ℤ◌, length}
use Rattle.route_tables.specs.Serials.{serial_at, MayTouch}
use Rattle.route_tables.proofs.serials.touches_well.Given as goal

abbrev pub invariant-loop-j : goal.invariant-loop-j
invariant-loop-j l =
    (j : ℕ) → j < l.j → (i : ℕ) → i < 3 → MayTouch l.tables.groups (length l.tables.gates) l.n (serial_at l.tables.serials l.tables.width (pos (l.cell.0 + i) -ℤ pos 1) (pos (l.cell.1 + j) -ℤ pos 1))
