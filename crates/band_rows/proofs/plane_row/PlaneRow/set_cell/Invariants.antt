use Rattle.std.proofs.Common.{ℕ, ◌<◌, ◌≡◌, get_or}
use Rattle.band_rows.specs.Facing.{words_in}
use Rattle.band_rows.proofs.plane_row.PlaneRow.set_cell.Given as goal

abbrev pub invariant-loop-c : goal.invariant-loop-c
invariant-loop-c l = (i : ℕ) → i < l.c → get_or (words_in l.self) i 0 ≡ 0
