-- Numbers, by cases.
use Rattle.std.proofs.Common.{ℕ, ◌≡◌, refl, ◌<◌, ◌≤◌, ◌+◌, ◌⊎◌, Bool, true, false, cond, [], ◌∷◌, length, arith}
use Rattle.lists.specs.Items.{one_if}

-- below the next number: below this one, or this one
pub less_or_last : (i n : ℕ) → i < n + 1 → (i < n) ⊎ (i ≡ n)
less_or_last i n l = grind arith

pub at_most_one : (b : Bool) → one_if b ≤ 1
at_most_one true = omega arith
at_most_one false = omega arith

-- an item that is there by a test
pub length_if : {X : Type 0} (b : Bool) (x : X) → length (cond b (x ∷ []) []) ≡ one_if b
length_if true x = refl
length_if false x = refl
