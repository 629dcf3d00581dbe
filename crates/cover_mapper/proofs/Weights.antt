-- Weights of distinct nodes are at most those of all.
use Rattle.std.proofs.Common.{◌≡◌, ◌≢◌, refl, sym, ◌∙◌, ap, ap₂, ℕ, suc, ◌+◌, ◌<◌, ◌≤◌, List, [], ◌∷◌, set, map, length, get_or, arith}
use Rattle.std.specs.Prelude.{All, AllPairs, sum_by}
use Rattle.std.proofs.lemmas.List.{get_or-map, get_or-set_other, length-set, length-map}
use Rattle.std.proofs.lemmas.List.Sums.{sum_by-set, sum_by-cons}
use Rattle.std.proofs.lemmas.List.Elements.{All-get_or}

abbrev pub total : List ℕ → ℕ
total xs = sum_by (λ x. x) xs

abbrev AreDistinct : List ℕ → Type 0
AreDistinct order = AllPairs (λ a b. a ≢ b) order

abbrev AreBelow : List ℕ → ℕ → Type 0
AreBelow order n = (i : ℕ) → i < length order → get_or order i 0 < n

-- where a place is taken out, the others keep their weight
same_rest : (xs order : List ℕ) (place : ℕ) → ((i : ℕ) → i < length order → get_or order i 0 ≢ place) → sum_by (λ i. get_or (set xs place 0) i 0) order ≡ sum_by (λ i. get_or xs i 0) order
same_rest xs [] place off = refl
same_rest xs (o ∷ order) place off =
    sum_by-cons (λ i. get_or (set xs place 0) i 0) o order
    ∙ ap₂ (λ a b. a + b) (get_or-set_other xs place o 0 0 (off 0 (omega arith))) (same_rest xs order place (λ i lt. off (suc i) (omega (arith, lt))))
    ∙ sym (sum_by-cons (λ i. get_or xs i 0) o order)

pub at_most : (xs order : List ℕ) → AreDistinct order → AreBelow order (length xs) → sum_by (λ i. get_or xs i 0) order ≤ total xs
at_most xs [] once below = omega arith
at_most xs (o ∷ order) once below =
    let rest : sum_by (λ i. get_or (set xs o 0) i 0) order ≤ total (set xs o 0) =
    at_most (set xs o 0) order (λ i j d lt within. once (suc i) (suc j) d (omega (arith, lt)) (omega (arith, within))) (λ i lt. let e : length (set xs o 0) ≡ length xs = length-set xs o 0 in omega (arith, e, below (suc i) (omega (arith, lt)))) in
    let same : sum_by (λ i. get_or (set xs o 0) i 0) order ≡ sum_by (λ i. get_or xs i 0) order = same_rest xs order o (λ i lt e. once 0 (suc i) 0 (omega arith) (omega (arith, lt)) (sym e)) in
    let split : total (set xs o 0) + get_or xs o 0 ≡ total xs + 0 = sum_by-set (λ x. x) xs o 0 0 (below 0 (omega arith)) in
    let whole : sum_by (λ i. get_or xs i 0) (o ∷ order) ≡ get_or xs o 0 + sum_by (λ i. get_or xs i 0) order = sum_by-cons (λ i. get_or xs i 0) o order in
    omega (arith, rest, same, split, whole)

sum-total : {X : Type 0} (f : X → ℕ) (xs : List X) → total (map f xs) ≡ sum_by f xs
sum-total f [] = refl
sum-total f (x ∷ xs) = sum_by-cons (λ y. y) (f x) (map f xs) ∙ ap (λ n. f x + n) (sum-total f xs) ∙ sym (sum_by-cons f x xs)

by_place : {X : Type 0} (f : X → ℕ) (xs : List X) (d : X) (order : List ℕ) → AreBelow order (length xs) → sum_by (λ i. f (get_or xs i d)) order ≡ sum_by (λ i. get_or (map f xs) i 0) order
by_place f xs d [] below = refl
by_place f xs d (o ∷ order) below =
    sum_by-cons (λ i. f (get_or xs i d)) o order
    ∙ ap₂ (λ a b. a + b) (sym (get_or-map f xs o d 0 (below 0 (omega arith)))) (by_place f xs d order (λ i lt. below (suc i) (omega (arith, lt))))
    ∙ sym (sum_by-cons (λ i. get_or (map f xs) i 0) o order)

-- elements at distinct places weigh at most as much as all
pub weigh_at_most : {X : Type 0} (f : X → ℕ) (xs : List X) (d : X) (order : List ℕ) → AreDistinct order → All (λ n. n < length xs) order → sum_by (λ i. f (get_or xs i d)) order ≤ sum_by f xs
weigh_at_most f xs d order once within =
    let below : AreBelow order (length xs) = λ i lt. All-get_or (λ n. n < length xs) order i 0 lt within in
    let e : length (map f xs) ≡ length xs = length-map xs f in
    let bound : sum_by (λ i. get_or (map f xs) i 0) order ≤ total (map f xs) = at_most (map f xs) order once (λ i lt. omega (arith, e, below i lt)) in
    omega (arith, bound, by_place f xs d order below, sum-total f xs)
