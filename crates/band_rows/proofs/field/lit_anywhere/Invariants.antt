use Rattle.std.proofs.Common.{ℕ, ◌<◌, ◌≡◌, get_or}
use Rattle.std.specs.Int.RustNames.{bit_or}
use Rattle.band_rows.proofs.field.lit_anywhere.Given as goal

abbrev pub invariant-loop-i : goal.invariant-loop-i
invariant-loop-i l = record { none : (j : ℕ) → j < l.i → bit_or (get_or l.heads j 0) (get_or l.tails j 0) ≡ 0 }
