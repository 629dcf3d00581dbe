-- The last of a list.
use Rattle.std.proofs.Common.{ℕ, ◌≡◌, ◌≢◌, ◌≤◌, ◌-◌, refl, sym, ap, ◌∙◌, List, [], ◌∷◌, ◌++◌, length, get_or, suc, arith}
use Rattle.std.specs.Prelude.{take, drop}

pub last_apart : (xs : List ℕ) → 1 ≤ length xs → xs ≡ take (length xs - 1) xs ++ get_or xs (length xs - 1) 0 ∷ []
last_apart [] h = absurd (omega (arith, h))
last_apart (x ∷ []) h = refl
last_apart (x ∷ y ∷ xs) h =
    let e : length (x ∷ y ∷ xs) - 1 ≡ suc (length (y ∷ xs) - 1) = omega arith in
    rw e (ap (λ l. x ∷ l) (last_apart (y ∷ xs) (omega arith)))

-- with a last item a list is not empty
pub not_nil : {X : Type 0} (xs : List X) (x : X) → xs ++ x ∷ [] ≢ []
not_nil [] x e = let l : length (x ∷ []) ≡ 0 = ap length e in absurd (omega arith)
not_nil (y ∷ xs) x e = let l : length (y ∷ (xs ++ x ∷ [])) ≡ 0 = ap length e in absurd (omega arith)

-- and what is before it, and it, are known from the whole
pub snoc_same : {X : Type 0} (xs ys : List X) (x y : X) → xs ++ x ∷ [] ≡ ys ++ y ∷ [] → (xs ≡ ys) × (x ≡ y)
snoc_same [] [] x y e = (refl, ap (λ l. get_or l 0 x) e)
snoc_same [] (z ∷ ys) x y e = absurd (not_nil ys y (sym (ap (drop 1) e)))
snoc_same (z ∷ xs) [] x y e = absurd (not_nil xs x (ap (drop 1) e))
snoc_same (z ∷ xs) (w ∷ ys) x y e =
    let r : (xs ≡ ys) × (x ≡ y) = snoc_same xs ys x y (ap (drop 1) e) in
    (ap (λ v. v ∷ xs) (ap (λ l. get_or l 0 z) e) ∙ ap (λ l. w ∷ l) r.0, r.1)
