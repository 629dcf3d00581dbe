use Rattle.std.proofs.Common.{ℕ, ◌<◌, ◌≡◌, get_or}
use Rattle.std.specs.Int.RustNames.{bit_or}
use Rattle.band_rows.proofs.field.lit_listed.Given as goal

abbrev pub invariant-loop-k : goal.invariant-loop-k
invariant-loop-k l = record { none : (j : ℕ) → j < l.k → bit_or (get_or l.heads (get_or l.places j 0) 0) (get_or l.tails (get_or l.places j 0) 0) ≡ 0 }
