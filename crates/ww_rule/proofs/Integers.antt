-- What the test of two integers answers.
use Rattle.std.proofs.Common.{ℤ, ◌≡◌, ◌≢◌, false, int_eq}
use Rattle.std.proofs.lemmas.Bool.{false_from_ne_true}
use Rattle.std.proofs.lemmas.Bool.Decides.{Decides-int_eq}

pub other_int : (a b : ℤ) → a ≢ b → int_eq a b ≡ false
other_int a b h = false_from_ne_true (int_eq a b) (λ t. h ((Decides-int_eq a b).0 t))
