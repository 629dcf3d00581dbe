-- The way back through the places from which models were found.
use Rattle.std.proofs.Common.{◌≡◌, refl, sym, ap, subst, ◌∙◌, ℕ, ◌<◌, ◌≤◌, inl, inr, List, [], ◌∷◌, ◌++◌, reverse, length, get_or, Option, Some, None, arith}
use Rattle.std.proofs.lemmas.List.{reverse-append}
use Rattle.netlist_core.specs.declared.model.Model.{Model}
use Rattle.model_index.specs.Numbers.{PlacesSomewhere, LeadsBy}
use Rattle.model_circles.specs.Search.{IsSearch}
use Rattle.model_circles.specs.Ways.{LeadsBackBy, Stands, AreDifferent, IsWayBack}

-- what leads on from the model at a place to the one at the end, through models found from there on
pub record IsTrail (models : List Model) (found : List ℕ) (place at : ℕ) (trail : List ℕ) : Type 0 where
  pub leads : LeadsBackBy models (get_or found at 0) trail (get_or found place 0)
  pub up_to : at ≤ place
  pub later : (n : ℕ) → Stands n trail → (i : ℕ) × (at ≤ i) × (i < place) × (get_or found i 0 ≡ n)
  pub apart : AreDifferent trail

pub begun : (models : List Model) (found : List ℕ) (place : ℕ) → IsTrail models found place place []
begun models found place = record { leads = refl; up_to = omega arith; later = λ n s. absurd s; apart = tt }

-- models stand at one place each
one_place : (models : List Model) (first : ℕ) (places : List (Option ℕ)) (found parents : List ℕ) → IsSearch models first places found parents → (i j : ℕ) → i < length found → j < length found → get_or found i 0 ≡ get_or found j 0 → i ≡ j
one_place models first places found parents s i j a b e =
    let p : get_or places (get_or found i 0) None ≡ Some i = s.at_place i a in
    let q : get_or places (get_or found j 0) None ≡ Some j = s.at_place j b in
    let r : get_or places (get_or found i 0) None ≡ get_or places (get_or found j 0) None = ap (λ v. get_or places v None) e in
    let t : Some i ≡ Some j = sym p ∙ r ∙ q in
    cc

led_from : (models : List Model) (x y : ℕ) (trail : List ℕ) (end : ℕ) → PlacesSomewhere models x y → LeadsBackBy models y trail end → LeadsBy models x trail end
led_from models x y [] end p e = subst (λ v. PlacesSomewhere models x v) e p
led_from models x y (z ∷ zs) end p (e, rest) = (subst (λ v. PlacesSomewhere models x v) e p, rest)

pub longer : (models : List Model) (first : ℕ) (places : List (Option ℕ)) (found parents : List ℕ) (place at next : ℕ) (trail : List ℕ) → IsSearch models first places found parents → place < length found → 0 < at → next ≡ get_or parents at 0 → IsTrail models found place at trail
    → IsTrail models found place next (get_or found next 0 ∷ trail)
longer models first places found parents place at next trail s within some is t =
    let up : at ≤ place = t.up_to in
    let step : (get_or parents at 0 < at) × PlacesSomewhere models (get_or found (get_or parents at 0) 0) (get_or found at 0) = s.before at some (omega arith) in
    let less : next < at = subst (λ v. v < at) (sym is) step.0 in
    record {
      leads = (refl, led_from models (get_or found next 0) (get_or found at 0) trail (get_or found place 0) (subst (λ v. PlacesSomewhere models (get_or found v 0) (get_or found at 0)) (sym is) step.1) t.leads);
      up_to = omega arith;
      later = λ n st. later less n st;
      apart = (λ st. absurd (again less (t.later (get_or found next 0) st)), t.apart);
    }
  where
    later : next < at → (n : ℕ) → Stands n (get_or found next 0 ∷ trail) → (i : ℕ) × (next ≤ i) × (i < place) × (get_or found i 0 ≡ n)
    later less n (inl e) = let up : at ≤ place = t.up_to in (next, omega arith, omega arith, sym e)
    later less n (inr st) = let (i, low, high, e) = t.later n st in (i, omega arith, high, e)

    again : next < at → (i : ℕ) × (at ≤ i) × (i < place) × (get_or found i 0 ≡ get_or found next 0) → ⊥
    again less (i, low, high, e) =
        let up : at ≤ place = t.up_to in
        let same : i ≡ next = one_place models first places found parents s i next (omega arith) (omega arith) e in
        absurd (omega arith)

-- the whole trail is a way
pub whole : (models : List Model) (first : ℕ) (places : List (Option ℕ)) (found parents : List ℕ) (place at : ℕ) (trail : List ℕ) → IsSearch models first places found parents → place < length found → at ≡ 0 → IsTrail models found place at trail
    → IsWayBack models first (get_or found place 0) trail
whole models first places found parents place at trail s within zero t = record {
  leads = subst (λ v. LeadsBackBy models v trail (get_or found place 0)) (ap (λ v. get_or found v 0) zero ∙ s.is_first) t.leads;
  apart = (λ st. absurd (again (t.later (get_or found place 0) st)), t.apart);
}
  where
    again : (i : ℕ) × (at ≤ i) × (i < place) × (get_or found i 0 ≡ get_or found place 0) → ⊥
    again (i, low, high, e) =
        let same : i ≡ place = one_place models first places found parents s i place (omega arith) within e in
        absurd (omega arith)

pub reverse_push : (xs : List ℕ) (x : ℕ) → reverse (xs ++ x ∷ []) ≡ x ∷ reverse xs
reverse_push xs x = reverse-append xs (x ∷ [])
