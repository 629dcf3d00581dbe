-- The tables of names and of first numbers, place by place.
use Rattle.std.proofs.Common.{ℕ, zero, suc, ◌≡◌, ◌≢◌, ◌<◌, ◌≤◌, ◌+◌, ◌^◌, ◌⊎◌, inl, inr, List, [], ◌∷◌, ◌++◌, Option, Some, None, slice_get, get_or, true, true≢false, ap₂, length, set, replicate, refl, sym, ap, ◌∙◌, subst, arith, length-append, length-set}
use Rattle.std.specs.Prelude.{is_some}
use Rattle.std.proofs.lemmas.List.{length-replicate, length-map}
use Rattle.std.proofs.lemmas.Option.{none-some, slice_get_within, slice_get_read, same_Some}
use Rattle.std.proofs.lemmas.Bool.{cases_eq}
use Rattle.netlist_core.specs.declared.model.Design.{Design}
use Rattle.netlist_core.specs.declared.model.Model.{Model}
use Rattle.netlist_core.specs.Names.{Name}
use Rattle.netlist_meaning.specs.Places.{model_at}
use Rattle.netlist_meaning.specs.Nets.{net_at}
use Rattle.netlist_meaning.specs.InOrder.{places_in_order, names_in_order, nets_at, nets_in_order}
use Rattle.netlist_meaning.specs.Weight.{weight}
use Rattle.netlist_rules.specs.ModelFaults.{AreFaultless}
use Rattle.lists.proofs.Appends.{slice_get_push}
use Rattle.design_walks.specs.declared.placed.PlacedModel.{PlacedModel}
use Rattle.design_walks.specs.Places.{ArePlaces}
use Rattle.netlist_flatten.specs.Numbered.{place_at, nets_before}
use Rattle.netlist_flatten.specs.Tables.{AreOfModels, IsKnown, AreNames}
use Rattle.lists.proofs.Cuts.{got_left, flat_next, flat_within, got_set_same, got_set_other}
use Rattle.lists.proofs.Numbers.{less_or_last}
use Rattle.netlist_flatten.proofs.Numbering.{got_place, model_there, place_count, placed_at, nets_by_names, few_nets}

-- the names are known at the places so far
pub record KnownBefore (design : Design) (placed : List PlacedModel) (count : ℕ) (names : List (Option (List Name))) : Type 0 where
  pub many : length names ≡ length design.models
  pub right : AreOfModels design names
  pub known : (k : ℕ) (at : PlacedModel) → k < count → slice_get placed k ≡ Some at → IsKnown names at

no_name : {X : Type 0} (n k : ℕ) (x : X) → slice_get (replicate {A = Option X} n None) k ≡ Some (Some x) → ⊥
no_name zero k x e = none-some (Some x) e
no_name (suc n) zero x e = none-some x (same_Some _ _ e)
no_name (suc n) (suc k) x e = no_name n k x e

pub known_start : (design : Design) (placed : List PlacedModel) (names : List (Option (List Name))) (n : ℕ) → names ≡ replicate {A = Option (List Name)} n None → n ≡ length design.models → KnownBefore design placed 0 names
known_start design placed names n e many = record {
  many = ap length e ∙ length-replicate n None ∙ many;
  right = λ k model own is_model has. absurd (no_name n k own (ap (λ (xs : List (Option (List Name))). slice_get xs k) (sym e) ∙ has));
  known = λ k at l is_at. absurd (omega arith);
}

-- a table that knows at least as much
abbrev KnowsMore : List (Option (List Name)) → List (Option (List Name)) → Type 0
KnowsMore names more = (k : ℕ) (own : List Name) → slice_get names k ≡ Some (Some own) → (now : List Name) × (slice_get more k ≡ Some (Some now))

known_more : (design : Design) (placed : List PlacedModel) (count : ℕ) (names more : List (Option (List Name))) (at : PlacedModel) → KnownBefore design placed count names → slice_get placed count ≡ Some at
    → length more ≡ length names → AreOfModels design more → KnowsMore names more → IsKnown more at → KnownBefore design placed (count + 1) more
known_more design placed count names more at before e many right knows here = record { many = many ∙ before.many; right = right; known = known }
  where
    by : (k : ℕ) (other : PlacedModel) → (k < count) ⊎ (k ≡ count) → slice_get placed k ≡ Some other → IsKnown more other
    by k other (inl l) is = let (own, has) = before.known k other l is in knows other.model own has
    by k other (inr same) is = subst (IsKnown more) (same_Some _ _ (sym e ∙ ap (slice_get placed) (sym same) ∙ is)) here

    known : (k : ℕ) (other : PlacedModel) → k < count + 1 → slice_get placed k ≡ Some other → IsKnown more other
    known k other b is = by k other (less_or_last k count b) is

-- a model whose names are known already
pub known_same : (design : Design) (placed : List PlacedModel) (count : ℕ) (names : List (Option (List Name))) (at : PlacedModel) (own : List Name) → KnownBefore design placed count names → slice_get placed count ≡ Some at
    → slice_get names at.model ≡ Some (Some own) → KnownBefore design placed (count + 1) names
known_same design placed count names at own before e has = known_more design placed count names names at before e refl before.right (λ k now h. (now, h)) (own, has)

-- and one whose names come in
pub known_new : (design : Design) (placed : List PlacedModel) (count : ℕ) (names : List (Option (List Name))) (at : PlacedModel) (model : Model) (own : List Name) → KnownBefore design placed count names → slice_get placed count ≡ Some at
    → slice_get design.models at.model ≡ Some model → own ≡ names_in_order model → KnownBefore design placed (count + 1) (set names at.model (Some own))
known_new design placed count names at model own before e is_model is_own =
    known_more design placed count names (set names at.model (Some own)) at before e (length-set names at.model (Some own)) right knows (own, here)
  where
    there : at.model < length names
    there = let l : at.model < length design.models = slice_get_within design.models at.model model is_model in let m : length names ≡ length design.models = before.many in omega arith

    here : slice_get (set names at.model (Some own)) at.model ≡ Some (Some own)
    here = got_set_same names at.model (Some own) there

    right_by : (k : ℕ) (other : Model) (now : List Name) → (k ≡ at.model) ⊎ (k ≢ at.model) → slice_get design.models k ≡ Some other → slice_get (set names at.model (Some own)) k ≡ Some (Some now) → now ≡ names_in_order other
    right_by k other now (inl same) is has =
        same_Some _ _ (same_Some _ _ (sym has ∙ ap (slice_get (set names at.model (Some own))) same ∙ here)) ∙ is_own ∙ ap names_in_order (same_Some _ _ (sym is_model ∙ ap (slice_get design.models) (sym same) ∙ is))
    right_by k other now (inr differ) is has = before.right k other now is (sym (got_set_other names at.model k (Some own) differ) ∙ has)

    right : AreOfModels design (set names at.model (Some own))
    right k other now is has = right_by k other now (cases_eq k at.model) is has

    knows_by : (k : ℕ) (now : List Name) → (k ≡ at.model) ⊎ (k ≢ at.model) → slice_get names k ≡ Some (Some now) → (later : List Name) × (slice_get (set names at.model (Some own)) k ≡ Some (Some later))
    knows_by k now (inl same) has = (own, ap (slice_get (set names at.model (Some own))) same ∙ here)
    knows_by k now (inr differ) has = (now, got_set_other names at.model k (Some own) differ ∙ has)

    knows : KnowsMore names (set names at.model (Some own))
    knows k now has = knows_by k now (cases_eq k at.model) has

pub known_all : (design : Design) (placed : List PlacedModel) (count : ℕ) (names : List (Option (List Name))) → length placed ≤ count → KnownBefore design placed count names → AreNames design placed names
known_all design placed count names all before = record {
  many = before.many;
  right = before.right;
  known = λ k at is. before.known k at (let l : k < length placed = slice_get_within placed k at is in omega arith) is;
}

-- the first numbers so far
pub record FirstsBefore (design : Design) (count first : ℕ) (firsts : List ℕ) : Type 0 where
  pub is_first : first ≡ length (nets_before design count)
  pub many : length firsts ≡ count
  pub firsts_are : (k : ℕ) → k < count → slice_get firsts k ≡ Some (length (nets_before design k))

-- the same, where what stands in the table is some
pub known_some : (design : Design) (placed : List PlacedModel) (count : ℕ) (names : List (Option (List Name))) (at : PlacedModel) (own : Option (List Name)) → KnownBefore design placed count names → slice_get placed count ≡ Some at
    → at.model < length names → own ≡ get_or names at.model own → is_some own ≡ true → KnownBefore design placed (count + 1) names
known_some design placed count names at None before e l is some = absurd (true≢false (sym some))
known_some design placed count names at (Some own) before e l is some = known_same design placed count names at own before e (slice_get_read names (length names) at.model (Some own) refl l is)

-- where the first numbers go on
next_nets : (design : Design) (k : ℕ) → k < length (places_in_order design) → length (nets_before design (k + 1)) ≡ length (nets_before design k) + length (nets_at design (place_at design k))
next_nets design k l =
    let one : k + 1 ≡ suc k = omega arith in
    ap (λ n. length (nets_before design n)) one
    ∙ ap length (flat_next (nets_at design) (places_in_order design) k (place_at design k) (got_place design k l))
    ∙ length-append (nets_before design k) (nets_at design (place_at design k))

pub firsts_next : (design : Design) (count first own : ℕ) (firsts : List ℕ) → count < length (places_in_order design) → own ≡ length (nets_at design (place_at design count)) → FirstsBefore design count first firsts
    → FirstsBefore design (count + 1) (first + own) (firsts ++ first ∷ [])
firsts_next design count first own firsts l e before = record {
  is_first = ap₂ (λ a b. a + b) before.is_first e ∙ sym (next_nets design count l);
  many = length-append firsts (first ∷ []) ∙ ap (λ n. n + 1) before.many;
  firsts_are = λ k b. by k (less_or_last k count b);
}
  where
    by : (k : ℕ) → (k < count) ⊎ (k ≡ count) → slice_get (firsts ++ first ∷ []) k ≡ Some (length (nets_before design k))
    by k (inl l) = got_left firsts (first ∷ []) k _ (before.firsts_are k l)
    by k (inr same) = ap (slice_get (firsts ++ first ∷ [])) (same ∙ sym before.many) ∙ slice_get_push firsts first ∙ ap Some (before.is_first ∙ ap (λ n. length (nets_before design n)) (sym same))

-- how many nets stand at a place
pub own_count : (design : Design) (placed : List PlacedModel) (names : List (Option (List Name))) (k : ℕ) (at : PlacedModel) (count : ℕ) → ArePlaces design placed → AreNames design placed names → slice_get placed k ≡ Some at
    → ((own : List Name) → slice_get names at.model ≡ Some (Some own) → count ≡ length own) → count ≡ length (nets_at design (place_at design k))
own_count design placed names k at count places known e counts =
    let h = places.models k at e in
    let here : at.place ≡ place_at design k = placed_at design placed k at places e in
    let (m, is_m) = model_there design k (let l : k < length placed = slice_get_within placed k at e in subst (λ n. k < n) (place_count design placed places) l) in
    let is_model : slice_get design.models at.model ≡ Some m = sym h.is_placed ∙ ap (model_at design) here ∙ is_m in
    let (own, is_own) = known.known k at e in
    counts own is_own ∙ ap length (known.right at.model m own is_model is_own) ∙ sym (length-map (names_in_order m) (net_at (place_at design k))) ∙ sym (ap length (nets_by_names design (place_at design k) m is_m))

-- the sum is a number of nets
pub first_few : (design : Design) (count first own : ℕ) (firsts : List ℕ) → AreFaultless design.models → weight design < 2 ^ 32 → count < length (places_in_order design) → own ≡ length (nets_at design (place_at design count)) → FirstsBefore design count first firsts
    → first + own < 2 ^ 32
first_few design count first own firsts faultless few l e before =
    let within : length (nets_before design count) + length (nets_at design (place_at design count)) ≤ length (nets_in_order design) = flat_within (nets_at design) (places_in_order design) count (place_at design count) (got_place design count l) in
    let all : length (nets_in_order design) < 2 ^ 32 = few_nets design faultless few in
    let is : first ≡ length (nets_before design count) = before.is_first in
    omega arith
