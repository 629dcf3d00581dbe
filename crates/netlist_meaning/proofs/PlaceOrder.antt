-- The order of places.
use Rattle.std.proofs.Common.{◌≡◌, ◌<◌, ◌⊎◌, [], ◌∷◌, refl, sym, ap, ◌∙◌, arith, inl, inr}
use Rattle.std.proofs.lemmas.Bool.{cases_order}
use Rattle.netlist_meaning.specs.Places.{Place, IsBefore}
use Rattle.netlist_meaning.specs.Laws.{PlacesAreOrdered}

pub one_of_three : (p q : Place) → IsBefore p q ⊎ (p ≡ q) ⊎ IsBefore q p
one_of_three [] [] = inr (inl refl)
one_of_three [] (n ∷ q) = inl tt
one_of_three (m ∷ p) [] = inr (inr tt)
one_of_three (m ∷ p) (n ∷ q) = by_first (cases_order m n) (one_of_three p q)
  where
    by_first : (m ≡ n) ⊎ ((m < n) ⊎ (n < m)) → IsBefore p q ⊎ (p ≡ q) ⊎ IsBefore q p → IsBefore (m ∷ p) (n ∷ q) ⊎ (m ∷ p ≡ n ∷ q) ⊎ IsBefore (n ∷ q) (m ∷ p)
    by_first (inr (inl lt)) rest = inl (inl lt)
    by_first (inr (inr lt)) rest = inr (inr (inl lt))
    by_first (inl same) (inl before) = inl (inr (same, before))
    by_first (inl same) (inr (inl one)) = inr (inl (ap (λ x. x ∷ p) same ∙ ap (λ x. n ∷ x) one))
    by_first (inl same) (inr (inr after)) = inr (inr (inr (sym same, after)))

never_itself : (p : Place) → ¬ IsBefore p p
never_itself [] h = h
never_itself (m ∷ p) (inl lt) = omega arith
never_itself (m ∷ p) (inr h) = never_itself p h.1

goes_on : (p q r : Place) → IsBefore p q → IsBefore q r → IsBefore p r
goes_on [] [] r h k = k
goes_on [] (n ∷ q) [] h k = k
goes_on [] (n ∷ q) (o ∷ r) h k = tt
goes_on (m ∷ p) [] r h k = absurd h
goes_on (m ∷ p) (n ∷ q) [] h k = absurd k
goes_on (m ∷ p) (n ∷ q) (o ∷ r) (inl lt) (inl lt') = inl (omega arith)
goes_on (m ∷ p) (n ∷ q) (o ∷ r) (inl lt) (inr k) = let same = k.0 in inl (omega arith)
goes_on (m ∷ p) (n ∷ q) (o ∷ r) (inr h) (inl lt) = let same = h.0 in inl (omega arith)
goes_on (m ∷ p) (n ∷ q) (o ∷ r) (inr h) (inr k) = inr (h.0 ∙ k.0, goes_on p q r h.1 k.1)

pub places_are_ordered : PlacesAreOrdered
places_are_ordered = record { one_of_three = one_of_three; never_itself = never_itself; goes_on = goes_on }
