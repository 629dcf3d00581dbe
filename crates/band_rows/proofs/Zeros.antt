-- Words that are 0.
use Rattle.std.proofs.Common.{◌≡◌, ℕ, arith}
use Rattle.std.specs.Int.RustNames.{bit_or}
use Rattle.std.proofs.lemmas.Nat.{le_or_l, le_or_r}

pub zero_left : (a b : ℕ) → bit_or a b ≡ 0 → a ≡ 0
zero_left a b e = let l = le_or_l a b in omega (arith, e, l)

pub zero_right : (a b : ℕ) → bit_or a b ≡ 0 → b ≡ 0
zero_right a b e = let l = le_or_r a b in omega (arith, e, l)
