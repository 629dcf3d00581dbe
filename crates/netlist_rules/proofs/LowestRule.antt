-- The first of some rules that is broken, where they stand in the order of their numbers: `broken` tells what breaks a rule, and `told` makes a fault of it.
use Rattle.std.proofs.lemmas.Bool.{and_parts}
use Rattle.std.proofs.Common.{◌≡◌, refl, sym, ap, subst, ◌∙◌, ◌<◌, inl, inr, List, [], ◌∷◌, true, arith}
use Rattle.std.specs.Prelude.{Some, None, Option, option_map}
use Rattle.std.specs.Option.{option_or}
use Rattle.netlist_rules.specs.declared.fault.Fault.{Fault}
use Rattle.netlist_rules.specs.declared.fault.FaultKind.{FaultKind}
use Rattle.netlist_rules.specs.FaultNames.{number_of}
use Rattle.netlist_rules.proofs.FaultKinds.{Member, ascends, above}

module _ {A : Type 0} (told : FaultKind → A → Fault) (broken : FaultKind → Option A) where
  abbrev pub lowest : List FaultKind → Option Fault
  lowest [] = None
  lowest (k ∷ ks) = option_or (option_map (told k) (broken k)) (lowest ks)

  pub record IsLowest (rules : List FaultKind) (f : Fault) : Type 0 where
    pub what : A
    pub is_told : f ≡ told f.kind what
    pub breaks : broken f.kind ≡ Some what
    pub is_lowest : (kind : FaultKind) → Member kind rules → number_of kind < number_of f.kind → broken kind ≡ None

  here : ((k : FaultKind) (a : A) → (told k a).kind ≡ k) → (k : FaultKind) (ks : List FaultKind) (a : A) → ascends (k ∷ ks) ≡ true → broken k ≡ Some a → IsLowest (k ∷ ks) (told k a)
  here named k ks a up h = record {
    what = a;
    is_told = ap (λ j. told j a) (sym (named k a));
    breaks = subst (λ j. broken j ≡ Some a) (sym (named k a)) h;
    is_lowest = λ kind m lower.
        let own : number_of (told k a).kind ≡ number_of k = ap number_of (named k a) in
        elim m as (λ _. broken kind ≡ None) [
          | inl same ↦ absurd (let n : number_of kind ≡ number_of k = ap number_of same in omega arith)
          | inr later ↦ absurd (let n : number_of k < number_of kind = above (number_of k) ks kind (and_parts _ _ up).0 later in omega arith)
        ];
  }

  pub found : ((k : FaultKind) (a : A) → (told k a).kind ≡ k) → (rules : List FaultKind) (f : Fault) → ascends rules ≡ true → lowest rules ≡ Some f → IsLowest rules f
  found named [] f up e = absurd (cc)
  found named (k ∷ ks) f up e = by (λ d. found named ks f (and_parts _ _ up).1 d) (broken k) refl e
    where
      by : (lowest ks ≡ Some f → IsLowest ks f) → (o : Option A) → broken k ≡ o → option_or (option_map (told k) o) (lowest ks) ≡ Some f → IsLowest (k ∷ ks) f
      by again (Some a) h d = let same : told k a ≡ f = cc in subst (λ g. IsLowest (k ∷ ks) g) same (here named k ks a up h)
      by again None h d =
          let rest : IsLowest ks f = again d in
          record {
            what = rest.what;
            is_told = rest.is_told;
            breaks = rest.breaks;
            is_lowest = λ kind m lower. elim m as (λ _. broken kind ≡ None) [
              | inl same ↦ subst (λ j. broken j ≡ None) (sym same) h
              | inr later ↦ rest.is_lowest kind later lower
            ];
          }

  pub finds : (rules : List FaultKind) (f : Fault) (a : A) → ascends rules ≡ true → Member f.kind rules → f ≡ told f.kind a → broken f.kind ≡ Some a → ((kind : FaultKind) → number_of kind < number_of f.kind → broken kind ≡ None) → lowest rules ≡ Some f
  finds [] f a up m same h low = absurd m
  finds (k ∷ ks) f a up (inl own) same h low =
      ap (λ o. option_or (option_map (told k) o) (lowest ks)) (subst (λ j. broken j ≡ Some a) own h) ∙ ap Some (ap (λ j. told j a) (sym own) ∙ sym same)
  finds (k ∷ ks) f a up (inr later) same h low =
      ap (λ o. option_or (option_map (told k) o) (lowest ks)) (low k (above (number_of k) ks f.kind (and_parts _ _ up).0 later)) ∙ finds ks f a (and_parts _ _ up).1 later same h low

  pub not_broken : (rules : List FaultKind) → lowest rules ≡ None → (kind : FaultKind) → Member kind rules → broken kind ≡ None
  not_broken [] e kind m = absurd m
  not_broken (k ∷ ks) e kind m = by (λ d later. not_broken ks d kind later) (broken k) refl e m
    where
      by : (lowest ks ≡ None → Member kind ks → broken kind ≡ None) → (o : Option A) → broken k ≡ o → option_or (option_map (told k) o) (lowest ks) ≡ None → Member kind (k ∷ ks) → broken kind ≡ None
      by again (Some a) h d m = absurd (cc)
      by again None h d (inl same) = subst (λ j. broken j ≡ None) (sym same) h
      by again None h d (inr later) = again d later

  pub none_broken : (rules : List FaultKind) → ((kind : FaultKind) → broken kind ≡ None) → lowest rules ≡ None
  none_broken [] none = refl
  none_broken (k ∷ ks) none = ap (λ o. option_or (option_map (told k) o) (lowest ks)) (none k) ∙ none_broken ks none
