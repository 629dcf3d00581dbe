-- Where a word is cut.
use Rattle.std.proofs.Common.{ℕ, ◌≡◌, ◌+◌, refl, sym, ap, ◌∙◌, Bool, true, false, ◌||◌, not, cond, List, [], ◌∷◌, length, arith, reverse, nat_lt}
use Rattle.std.specs.Prelude.{Some, None}
use Rattle.std.specs.List.{list_any, position_or_len, position}
use Rattle.std.proofs.lemmas.List.{reverse-append}
use Rattle.std.proofs.lemmas.Bool.Decides.{nat_tests}
use Rattle.std.proofs.lemmas.List.Folds.{list_any-append}
use Rattle.std.proofs.Math.Bool.{or-false, or_comm}
use Rattle.streams.specs.Cuts.{is_equals_sign}

-- whether an element passes is whether the first place that does is within the list
any_place : (p : ℕ → Bool) (xs : List ℕ) → list_any p xs ≡ nat_lt (position_or_len p xs) (length xs)
any_place p [] = refl
any_place p (x ∷ xs) =
    elim (p x) as (λ b. (b || list_any p xs) ≡ nat_lt (cond (not b) (1 + position_or_len p xs) 0) (length (x ∷ xs))) [
      | true ↦ grind (arith, nat_tests)
      | false ↦ any_place p xs ∙ grind (arith, nat_tests)
    ]

any_reversed : (p : ℕ → Bool) (xs : List ℕ) → list_any p (reverse xs) ≡ list_any p xs
any_reversed p [] = refl
any_reversed p (x ∷ xs) =
    ap (list_any p) (reverse-append (x ∷ []) xs)
    ∙ list_any-append p (reverse xs) (x ∷ [])
    ∙ ap (λ b. list_any p (reverse xs) || b) (or-false (p x))
    ∙ or_comm (list_any p (reverse xs)) (p x)
    ∙ ap (λ b. p x || b) (any_reversed p xs)

place_none : (b : Bool) (n : ℕ) → cond b (Some n) None ≡ None → b ≡ false
place_none true n e = cc
place_none false n e = refl

place_some : (b : Bool) (m n : ℕ) → cond b (Some m) None ≡ Some n → (b ≡ true) × (m ≡ n)
place_some true m n e = (refl, cc)
place_some false m n e = cc

-- whether, and where, the first element stands that passes
pub none_passes : (p : ℕ → Bool) (xs : List ℕ) → position p xs ≡ None → list_any p xs ≡ false
none_passes p xs e = any_place p xs ∙ place_none (nat_lt (position_or_len p xs) (length xs)) (position_or_len p xs) e

pub first_is : (p : ℕ → Bool) (xs : List ℕ) (n : ℕ) → position p xs ≡ Some n → (list_any p xs ≡ true) × (position_or_len p xs ≡ n)
first_is p xs n e =
    let parts = place_some (nat_lt (position_or_len p xs) (length xs)) (position_or_len p xs) n e in
    (any_place p xs ∙ parts.0, parts.1)

-- a word without the byte
pub not_cut : (word : List ℕ) → position is_equals_sign (reverse word) ≡ None → list_any is_equals_sign word ≡ false
not_cut word e =
    sym (any_reversed is_equals_sign word) ∙ none_passes is_equals_sign (reverse word) e

-- a word with it: the place of the last one, counted from the end
pub is_cut : (word : List ℕ) (count : ℕ) → position is_equals_sign (reverse word) ≡ Some count → (list_any is_equals_sign word ≡ true) × (position_or_len is_equals_sign (reverse word) ≡ count)
is_cut word count e =
    let at = first_is is_equals_sign (reverse word) count e in
    (sym (any_reversed is_equals_sign word) ∙ at.0, at.1)
