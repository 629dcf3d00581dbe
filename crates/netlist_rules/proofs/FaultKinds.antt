-- Kinds of faults in the order of their numbers.
use Rattle.std.proofs.lemmas.Bool.{and_parts, ltb-true}
use Rattle.std.proofs.Common.{◌≡◌, sym, subst, ℕ, ◌<◌, ◌⊎◌, inl, inr, List, [], ◌∷◌, Bool, true, ◌&&◌}
use Rattle.std.specs.Prelude.{nat_lt}
use Rattle.std.specs.List.{list_all}
use Rattle.netlist_rules.specs.declared.fault.FaultKind.{FaultKind}
use Rattle.netlist_rules.specs.FaultNames.{number_of}

-- one of a list
abbrev pub Member : FaultKind → List FaultKind → Type 0
Member kind [] = ⊥
Member kind (k ∷ ks) = (kind ≡ k) ⊎ Member kind ks

-- a list in the order of the numbers
abbrev pub ascends : List FaultKind → Bool
ascends [] = true
ascends (k ∷ ks) = list_all (λ j. nat_lt (number_of k) (number_of j)) ks && ascends ks

pub above : (n : ℕ) (ks : List FaultKind) (kind : FaultKind) → list_all (λ j. nat_lt n (number_of j)) ks ≡ true → Member kind ks → n < number_of kind
above n [] kind e m = absurd m
above n (k ∷ ks) kind e (inl h) = subst (λ j. n < number_of j) (sym h) (ltb-true n (number_of k) (and_parts (nat_lt n (number_of k)) (list_all (λ j. nat_lt n (number_of j)) ks) e).0)
above n (k ∷ ks) kind e (inr m) = above n ks kind (and_parts (nat_lt n (number_of k)) (list_all (λ j. nat_lt n (number_of j)) ks) e).1 m
