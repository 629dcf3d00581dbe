-- Lists that a loop fills, one item after another.
use Rattle.std.proofs.Common.{ℕ, zero, suc, ◌≡◌, refl, sym, subst, ◌∙◌, ◌+◌, ◌<◌, ◌≤◌, ◌⊎◌, inl, inr, List, [], ◌∷◌, ◌++◌, length, get_or, replicate, arith}
use Rattle.std.proofs.lemmas.Bool.{cases_lt}
use Rattle.std.proofs.lemmas.List.{get_or_append_left, get_or_push, length_push, get_or_past}
use Rattle.lists.proofs.Numbers.{less_or_last}

-- so many items, each as it is wanted at its place
abbrev pub IsFilled : {X : Type 0} → (ℕ → X → Type 0) → X → ℕ → List X → Type 0
IsFilled wanted d count xs = (length xs ≡ count) × ((i : ℕ) → i < count → wanted i (get_or xs i d))

-- one more item
pub filled_more : {X : Type 0} (wanted : ℕ → X → Type 0) (d : X) (count : ℕ) (xs ys : List X) (x : X) → IsFilled wanted d count xs → ys ≡ xs ++ x ∷ [] → wanted count x → IsFilled wanted d (count + 1) ys
filled_more wanted d count xs ys x (long, each) pushed is = subst (IsFilled wanted d (count + 1)) (sym pushed) ((let e : length (xs ++ x ∷ []) ≡ length xs + 1 = length_push xs x in omega arith), λ i l. by i (less_or_last i count l))
  where
    by : (i : ℕ) → (i < count) ⊎ (i ≡ count) → wanted i (get_or (xs ++ x ∷ []) i d)
    by i (inl l) = subst (wanted i) (sym (get_or_append_left xs (x ∷ []) d i (subst (λ n. i < n) (sym long) l))) (each i l)
    by i (inr e) = subst (wanted i) (sym (get_or_push xs x d i (long ∙ sym e))) (subst (λ n. wanted n x) (sym e) is)

-- where what stands for the items past the end is wanted there
pub filled_whole : {X : Type 0} (wanted : ℕ → X → Type 0) (d : X) (count : ℕ) (xs : List X) → IsFilled wanted d count xs → ((i : ℕ) → count ≤ i → wanted i d) → (i : ℕ) → wanted i (get_or xs i d)
filled_whole wanted d count xs (long, each) past i = by (cases_lt i count)
  where
    by : (i < count) ⊎ (count ≤ i) → wanted i (get_or xs i d)
    by (inl l) = each i l
    by (inr l) = subst (wanted i) (sym (get_or_past xs i d (subst (λ n. n ≤ i) (sym long) l))) (past i l)

-- equal values hold at each place, and past the end where the value is what stands there
pub same_throughout : {X : Type 0} (n i : ℕ) (x : X) → get_or (replicate n x) i x ≡ x
same_throughout zero i x = refl
same_throughout (suc n) zero x = refl
same_throughout (suc n) (suc i) x = same_throughout n i x
