-- How a walk over the places of a design goes on.
use Rattle.std.proofs.Common.{ℕ, suc, ◌≡◌, ◌≢◌, refl, sym, ap, ap₂, ◌∙◌, subst, ◌+◌, ◌-◌, ◌<◌, ◌≤◌, inl, inr, List, [], ◌∷◌, ◌++◌, length, map, Option, Some, None, slice_get, position, option_map, option_to_list, option_and_then, MatchOption, append_assoc, append-nil, length-append, arith, is_some}
use Rattle.std.proofs.lemmas.List.{map-append, length-map}
use Rattle.std.proofs.lemmas.Option.{slice_get_within, none-some}
use Rattle.lists.proofs.Members.{In, in_left, in_right, in_parts, in_got}
use Rattle.lists.proofs.Appends.{slice_get_push}
use Rattle.netlist_core.specs.declared.model.Design.{Design}
use Rattle.netlist_core.specs.declared.model.Model.{Model}
use Rattle.netlist_core.specs.declared.model.Subckt.{Subckt}
use Rattle.netlist_core.specs.Names.{is_model_named, model_named}
use Rattle.netlist_meaning.specs.Places.{Place, main_model, model_below}
use Rattle.netlist_meaning.specs.InOrder.{of_some, places_in_lines, places_below, places_in_order}
use Rattle.netlist_meaning.specs.Laws.{IsNotRecursive}
use Rattle.netlist_meaning.proofs.Depth.{model_at-append, places_are_shallow}
use Rattle.netlist_rules.specs.ModelFaults.{AreFaultless}
use Rattle.netlist_rules.proofs.Faultless.{some_models}
use Rattle.lists.proofs.Cuts.{got_left, got_push}
use Rattle.flat_designs.proofs.Faultless.{not_recursive}
use Rattle.model_index.specs.ByName.{IsNumberOf}
use Rattle.model_index.proofs.Numbered.{number_found}
use Rattle.design_walks.specs.declared.placed.Parent.{Parent}
use Rattle.design_walks.specs.declared.placed.PlacedModel.{PlacedModel}
use Rattle.design_walks.specs.Places.{HasParent, IsModelAt, ArePlaces}
use Rattle.design_walks.specs.ToCome.{inner_at, placed_by, placed_by_lines, places_of_lines, places_inside, places_to_come, IsToCome}

-- the places so far, and those on the stack
pub record IsWalk (design : Design) (listed stack : List PlacedModel) : Type 0 where
  pub in_order : map (λ (placed : PlacedModel). placed.place) listed ++ places_to_come design stack ≡ places_in_order design
  pub models : (placed : PlacedModel) → In placed listed → IsModelAt design placed
  pub parents : (k : ℕ) (placed : PlacedModel) → slice_get listed k ≡ Some placed → MatchOption placed.parent (placed.place ≡ []) (HasParent listed k placed.place)
  pub to_come : (placed : PlacedModel) → In placed stack → IsToCome design listed placed

to_come_push : (design : Design) (stack : List PlacedModel) (placed : PlacedModel) → places_to_come design (stack ++ placed ∷ []) ≡ placed.place ∷ (places_inside design placed ++ places_to_come design stack)
to_come_push design [] placed = ap (λ ps. placed.place ∷ ps) (sym (append-nil (places_inside design placed)))
to_come_push design (first ∷ stack) placed =
    ap (λ ps. ps ++ first.place ∷ places_inside design first) (to_come_push design stack placed)
    ∙ append_assoc (placed.place ∷ places_inside design placed) (places_to_come design stack) (first.place ∷ places_inside design first)

-- a line whose model is not there has no places inside it
lines_none : (design : Design) (place : Place) (first : ℕ) (line : Subckt) (lines : List Subckt) → model_named design.models line.model ≡ None → places_of_lines design place first (line ∷ lines) ≡ places_of_lines design place (suc first) lines
lines_none design place first line lines none =
    let inside = places_in_lines (λ (l : Subckt). of_some (places_below design (length design.models - suc (length place))) (model_named design.models l.model)) (suc first) lines in
    ap (λ o. map (λ inner. place ++ inner) (map (λ inner. first ∷ inner) (of_some (places_below design (length design.models - suc (length place))) o) ++ inside)) none

-- the place of a line whose model is there, and those inside it
map_twice : (place : Place) (first : ℕ) (inner : List Place) → map (λ p. place ++ p) (map (λ p. first ∷ p) inner) ≡ map (λ p. (place ++ first ∷ []) ++ p) inner
map_twice place first [] = refl
map_twice place first (p ∷ inner) = ap₂ (λ q qs. q ∷ qs) (sym (append_assoc place (first ∷ []) p)) (map_twice place first inner)

lines_some : (design : Design) (outer : PlacedModel) (number first model : ℕ) (line : Subckt) (lines : List Subckt) (m : Model) → model_named design.models line.model ≡ Some m → slice_get design.models model ≡ Some m → length (outer.place ++ first ∷ []) < length design.models
    → places_of_lines design outer.place first (line ∷ lines) ≡ (outer.place ++ first ∷ []) ∷ (places_inside design (inner_at outer number first model) ++ places_of_lines design outer.place (suc first) lines)
lines_some design outer number first model line lines m is_named is_there short =
    let place = outer.place in
    let depth : ℕ = length design.models - suc (length place) in
    let below : ℕ = length design.models - suc (length (place ++ first ∷ [])) in
    let long : length (place ++ first ∷ []) ≡ length place + 1 = length-append place (first ∷ []) in
    let deeper : depth ≡ suc below = omega arith in
    let rest = places_in_lines (λ (l : Subckt). of_some (places_below design depth) (model_named design.models l.model)) (suc first) lines in
    let inner = places_in_lines (λ (l : Subckt). of_some (places_below design below) (model_named design.models l.model)) 0 m.subckts in
    map-append (λ p. place ++ p) (map (λ p. first ∷ p) (of_some (places_below design depth) (model_named design.models line.model))) rest
    ∙ ap (λ ps. ps ++ map (λ p. place ++ p) rest) (
    ap (λ o. map (λ p. place ++ p) (map (λ p. first ∷ p) (of_some (places_below design depth) o))) is_named
    ∙ ap (λ d. map (λ p. place ++ p) (map (λ p. first ∷ p) (places_below design d m))) deeper
    ∙ ap (λ ps. (place ++ first ∷ []) ∷ ps) (map_twice place first inner ∙ sym (ap (of_some (λ (n : Model). places_of_lines design (place ++ first ∷ []) 0 n.subckts)) is_there)))

-- the model at the place of a line
inner_is : (design : Design) (outer : PlacedModel) (number line model : ℕ) (subckt : Subckt) (m : Model) → IsModelAt design outer → slice_get design.models outer.model ≡ Some m → slice_get m.subckts line ≡ Some subckt → IsNumberOf design.models subckt.model model → IsModelAt design (inner_at outer number line model)
inner_is design outer number line model subckt m at is_m is_line named = record {
  is_there = slice_get_within design.models model named.model named.is_there;
  is_placed =
      model_at-append design outer.place (line ∷ [])
      ∙ ap (option_and_then (model_below design (line ∷ []))) (at.is_placed ∙ is_m)
      ∙ ap (λ o. option_and_then (model_below design []) (option_and_then (λ (l : Subckt). model_named design.models l.model) o)) is_line
      ∙ ap (option_and_then (model_below design [])) named.is_named
      ∙ sym named.is_there;
}

-- the lines of a list are those of the model from a number on
abbrev AreLinesFrom : Model → ℕ → List Subckt → Type 0
AreLinesFrom m first lines = (k : ℕ) (line : Subckt) → slice_get lines k ≡ Some line → slice_get m.subckts (first + k) ≡ Some line

lines_pushed : (design : Design) → IsNotRecursive design → (outer : PlacedModel) (number : ℕ) (m : Model) → IsModelAt design outer → slice_get design.models outer.model ≡ Some m → (first : ℕ) (lines : List Subckt) → AreLinesFrom m first lines → (stack : List PlacedModel)
    → places_to_come design (stack ++ placed_by_lines design.models outer number first lines) ≡ places_of_lines design outer.place first lines ++ places_to_come design stack
lines_pushed design away outer number m at is_m first [] are stack = ap (places_to_come design) (append-nil stack)
lines_pushed design away outer number m at is_m first (line ∷ lines) are stack =
    let rest = placed_by_lines design.models outer number (suc first) lines in
    ap (places_to_come design) (sym (append_assoc stack rest (placed_by design.models outer number first line)))
    ∙ by (position (is_model_named line.model) design.models) (number_found design.models line.model)
    (lines_pushed design away outer number m at is_m (suc first) lines (λ k l e. ap (slice_get m.subckts) (let same : suc first + k ≡ first + suc k = omega arith in same) ∙ are (suc k) l e) stack)
  where
    here : slice_get m.subckts first ≡ Some line
    here = ap (slice_get m.subckts) (let same : first ≡ first + 0 = omega arith in same) ∙ are 0 line refl

    by : (o : Option ℕ) → MatchOption o (model_named design.models line.model ≡ None) (IsNumberOf design.models line.model)
        → places_to_come design (stack ++ placed_by_lines design.models outer number (suc first) lines) ≡ places_of_lines design outer.place (suc first) lines ++ places_to_come design stack
        → places_to_come design ((stack ++ placed_by_lines design.models outer number (suc first) lines) ++ option_to_list (option_map (inner_at outer number first) o)) ≡ places_of_lines design outer.place first (line ∷ lines) ++ places_to_come design stack
    by None none rest = ap (places_to_come design) (append-nil (stack ++ placed_by_lines design.models outer number (suc first) lines)) ∙ rest ∙ ap (λ ps. ps ++ places_to_come design stack) (sym (lines_none design outer.place first line lines none))
    by (Some model) named rest =
        let inner = inner_at outer number first model in
        let is_inner : IsModelAt design inner = inner_is design outer number first model line m at is_m here named in
        let short : length (outer.place ++ first ∷ []) < length design.models = places_are_shallow design away inner.place (ap is_some (is_inner.is_placed ∙ named.is_there)) in
        to_come_push design (stack ++ placed_by_lines design.models outer number (suc first) lines) inner
        ∙ ap (λ ps. inner.place ∷ (places_inside design inner ++ ps)) rest
        ∙ ap (λ ps. inner.place ∷ ps) (sym (append_assoc (places_inside design inner) (places_of_lines design outer.place (suc first) lines) (places_to_come design stack)))
        ∙ ap (λ ps. ps ++ places_to_come design stack) (sym (lines_some design outer number first model line lines named.model named.is_named named.is_there short))

-- the first step: the main model's place is to come
abbrev main_place : PlacedModel
main_place = record { place = []; model = 0; parent = None }

pub walk_starts : (design : Design) → AreFaultless design.models → IsWalk design [] (main_place ∷ [])
walk_starts design faultless = by (first_of design.models (some_models design.models faultless))
  where
    first_of : (models : List Model) → models ≢ [] → (m : Model) × (slice_get models 0 ≡ Some m)
    first_of [] some = absurd (some refl)
    first_of (m ∷ models) some = (m, refl)

    same : (places : List Place) → map (λ p. [] ++ p) places ≡ places
    same [] = refl
    same (p ∷ places) = ap (λ ps. p ∷ ps) (same places)

    whole : (m : Model) → main_model design ≡ Some m → [] ∷ places_inside design main_place ≡ places_in_order design
    whole m is_m =
        let some : 0 < length design.models = slice_get_within design.models 0 m is_m in
        let depth : ℕ = length design.models - 1 in
        let deep : suc depth ≡ length design.models = omega arith in
        ap (λ o. [] ∷ of_some (λ (n : Model). places_of_lines design [] 0 n.subckts) o) is_m
        ∙ ap (λ ps. [] ∷ ps) (same (places_in_lines (λ (l : Subckt). of_some (places_below design depth) (model_named design.models l.model)) 0 m.subckts))
        ∙ ap (λ d. places_below design d m) deep
        ∙ sym (ap (of_some (places_below design (length design.models))) is_m)

    only : (m : Model) → main_model design ≡ Some m → (placed : PlacedModel) → In placed (main_place ∷ []) → IsToCome design [] placed
    only m is_m placed (inl e) = subst (IsToCome design []) (sym e) (record {
      model = record {
        is_there = slice_get_within design.models 0 m is_m;
        is_placed = ap (option_and_then (model_below design [])) is_m ∙ sym is_m;
      };
      parent = refl;
    })
    only m is_m placed (inr i) = absurd i

    by : (m : Model) × (main_model design ≡ Some m) → IsWalk design [] (main_place ∷ [])
    by (m, is_m) = record {
      in_order = whole m is_m;
      models = λ placed i. absurd i;
      parents = λ k placed e. absurd (none-some placed e);
      to_come = only m is_m;
    }

-- one step: the place on top of the stack is listed, and those of its lines take its place
abbrev place_of : PlacedModel → Place
place_of placed = placed.place

still_parent : (listed : List PlacedModel) (last : PlacedModel) (k j : ℕ) (place : Place) (parent : Option Parent) → k ≤ j → MatchOption parent (place ≡ []) (HasParent listed k place) → MatchOption parent (place ≡ []) (HasParent (listed ++ last ∷ []) j place)
still_parent listed last k j place None l h = h
still_parent listed last k j place (Some parent) l h = record {
  outer = h.outer;
  is_there = got_left listed (last ∷ []) parent.number h.outer h.is_there;
  is_earlier = (let e : parent.number < k = h.is_earlier in omega arith);
  is_inside = h.is_inside;
}

still_to_come : (design : Design) (listed : List PlacedModel) (last placed : PlacedModel) → IsToCome design listed placed → IsToCome design (listed ++ last ∷ []) placed
still_to_come design listed last placed h = record {
  model = h.model;
  parent = still_parent listed last (length listed) (length (listed ++ last ∷ [])) placed.place placed.parent (let e : length (listed ++ last ∷ []) ≡ length listed + 1 = length-append listed (last ∷ []) in omega arith) h.parent;
}

-- what a line puts on the stack
lines_to_come : (design : Design) (listed : List PlacedModel) (outer : PlacedModel) (m : Model) → IsModelAt design outer → slice_get design.models outer.model ≡ Some m → (first : ℕ) (lines : List Subckt) → AreLinesFrom m first lines
    → (placed : PlacedModel) → In placed (placed_by_lines design.models outer (length listed) first lines) → IsToCome design (listed ++ outer ∷ []) placed
lines_to_come design listed outer m at is_m first [] are placed i = absurd i
lines_to_come design listed outer m at is_m first (line ∷ lines) are placed i =
    elim (in_parts (placed_by_lines design.models outer (length listed) (suc first) lines) (placed_by design.models outer (length listed) first line) placed i) as (λ _. IsToCome design (listed ++ outer ∷ []) placed) [
      | inl j ↦ lines_to_come design listed outer m at is_m (suc first) lines (λ k l e. ap (slice_get m.subckts) (let same : suc first + k ≡ first + suc k = omega arith in same) ∙ are (suc k) l e) placed j
      | inr j ↦ by (position (is_model_named line.model) design.models) (number_found design.models line.model) j
    ]
  where
    here : slice_get m.subckts first ≡ Some line
    here = ap (slice_get m.subckts) (let same : first ≡ first + 0 = omega arith in same) ∙ are 0 line refl

    by : (o : Option ℕ) → MatchOption o (model_named design.models line.model ≡ None) (IsNumberOf design.models line.model) → In placed (option_to_list (option_map (inner_at outer (length listed) first) o)) → IsToCome design (listed ++ outer ∷ []) placed
    by None none i = absurd i
    by (Some model) named (inr i) = absurd i
    by (Some model) named (inl e) = subst (IsToCome design (listed ++ outer ∷ [])) (sym e) (record {
      model = inner_is design outer (length listed) first model line m at is_m here named;
      parent = record {
        outer = outer;
        is_there = slice_get_push listed outer;
        is_earlier = (let e : length (listed ++ outer ∷ []) ≡ length listed + 1 = length-append listed (outer ∷ []) in omega arith);
        is_inside = refl;
      };
    })

pub walk_goes_on : (design : Design) (listed stack : List PlacedModel) (placed : PlacedModel) (m : Model) → AreFaultless design.models → IsWalk design listed (stack ++ placed ∷ []) → slice_get design.models placed.model ≡ Some m
    → IsWalk design (listed ++ placed ∷ []) (stack ++ placed_by_lines design.models placed (length listed) 0 m.subckts)
walk_goes_on design listed stack placed m faultless h is_m = record {
  in_order =
      ap₂ (λ ps qs. ps ++ qs) (map-append place_of listed (placed ∷ [])) (lines_pushed design (not_recursive design faultless) placed (length listed) m at is_m 0 m.subckts all_lines stack)
      ∙ append_assoc (map place_of listed) (placed.place ∷ []) (places_of_lines design placed.place 0 m.subckts ++ places_to_come design stack)
      ∙ ap (λ ps. map place_of listed ++ placed.place ∷ (ps ++ places_to_come design stack)) (sym (ap (of_some (λ (n : Model). places_of_lines design placed.place 0 n.subckts)) is_m))
      ∙ ap (λ ps. map place_of listed ++ ps) (sym (to_come_push design stack placed))
      ∙ h.in_order;
  models = λ p i. elim (in_parts listed (placed ∷ []) p i) as (λ _. IsModelAt design p) [ inl j ↦ h.models p j | inr j ↦ last p j ];
  parents = λ k p e. elim (got_push listed placed k p e) as (λ _. MatchOption p.parent (p.place ≡ []) (HasParent (listed ++ placed ∷ []) k p.place)) [
    | inl g ↦ still_parent listed placed k k p.place p.parent (omega arith) (h.parents k p g)
    | inr g ↦ subst (λ (v : PlacedModel). MatchOption v.parent (v.place ≡ []) (HasParent (listed ++ placed ∷ []) k v.place)) (sym g.1) (still_parent listed placed (length listed) k placed.place placed.parent (let same : k ≡ length listed = g.0 in omega arith) top.parent)
  ];
  to_come = λ p i. elim (in_parts stack (placed_by_lines design.models placed (length listed) 0 m.subckts) p i) as (λ _. IsToCome design (listed ++ placed ∷ []) p) [
    | inl j ↦ still_to_come design listed placed p (h.to_come p (in_left stack (placed ∷ []) p j))
    | inr j ↦ lines_to_come design listed placed m at is_m 0 m.subckts all_lines p j
  ];
}
  where
    top : IsToCome design listed placed
    top = h.to_come placed (in_right stack (placed ∷ []) placed (inl refl))

    at : IsModelAt design placed
    at = top.model

    all_lines : AreLinesFrom m 0 m.subckts
    all_lines k line e = ap (slice_get m.subckts) (let same : 0 + k ≡ k = omega arith in same) ∙ e

    last : (p : PlacedModel) → In p (placed ∷ []) → IsModelAt design p
    last p (inl e) = subst (IsModelAt design) (sym e) at
    last p (inr i) = absurd i

-- the place on top has a model
pub top_is_placed : (design : Design) (listed whole under : List PlacedModel) (placed : PlacedModel) → IsWalk design listed whole → whole ≡ under ++ placed ∷ [] → IsModelAt design placed
top_is_placed design listed whole under placed h popped = (h.to_come placed (subst (In placed) (sym popped) (in_right under (placed ∷ []) placed (inl refl)))).model

-- one place fewer is to come
pub walk_ends : (design : Design) (listed stack : List PlacedModel) (placed : PlacedModel) (m : Model) → AreFaultless design.models → IsWalk design listed (stack ++ placed ∷ []) → slice_get design.models placed.model ≡ Some m
    → length (places_to_come design (stack ++ placed_by_lines design.models placed (length listed) 0 m.subckts)) < length (places_to_come design (stack ++ placed ∷ []))
walk_ends design listed stack placed m faultless h is_m =
    let next = walk_goes_on design listed stack placed m faultless h is_m in
    let whole : length (map place_of (listed ++ placed ∷ []) ++ places_to_come design (stack ++ placed_by_lines design.models placed (length listed) 0 m.subckts)) ≡ length (map place_of listed ++ places_to_come design (stack ++ placed ∷ [])) = ap length (next.in_order ∙ sym h.in_order) in
    let a : length (map place_of (listed ++ placed ∷ []) ++ places_to_come design (stack ++ placed_by_lines design.models placed (length listed) 0 m.subckts)) ≡ length (map place_of (listed ++ placed ∷ [])) + length (places_to_come design (stack ++ placed_by_lines design.models placed (length listed) 0 m.subckts))
    = length-append (map place_of (listed ++ placed ∷ [])) (places_to_come design (stack ++ placed_by_lines design.models placed (length listed) 0 m.subckts)) in
    let b : length (map place_of listed ++ places_to_come design (stack ++ placed ∷ [])) ≡ length (map place_of listed) + length (places_to_come design (stack ++ placed ∷ [])) = length-append (map place_of listed) (places_to_come design (stack ++ placed ∷ [])) in
    let d : length (map place_of (listed ++ placed ∷ [])) ≡ length (listed ++ placed ∷ []) = length-map (listed ++ placed ∷ []) place_of in
    let e : length (listed ++ placed ∷ []) ≡ length listed + 1 = length-append listed (placed ∷ []) in
    let f : length (map place_of listed) ≡ length listed = length-map listed place_of in
    omega arith

pub record GoesOn (design : Design) (listed whole stack : List PlacedModel) : Type 0 where
  pub walk : IsWalk design listed stack
  pub fewer : length (places_to_come design stack) < length (places_to_come design whole)

pub one_step : (design : Design) (listed after whole under stack : List PlacedModel) (placed : PlacedModel) (m : Model) (models : List Model) (lines : List Subckt) (number : ℕ) → AreFaultless design.models → IsWalk design listed whole → whole ≡ under ++ placed ∷ []
    → slice_get design.models placed.model ≡ Some m → models ≡ design.models → lines ≡ m.subckts → number ≡ length listed → stack ≡ under ++ placed_by_lines models placed number 0 lines → after ≡ listed ++ placed ∷ [] → GoesOn design after whole stack
one_step design listed after whole under stack placed m models lines number faultless h popped is_m same_models same_lines count pushed listed_more =
    let before : IsWalk design listed (under ++ placed ∷ []) = subst (IsWalk design listed) popped h in
    let on : List PlacedModel = under ++ placed_by_lines design.models placed (length listed) 0 m.subckts in
    let is_on : stack ≡ on = pushed ∙ ap (λ ms. under ++ placed_by_lines ms placed number 0 lines) same_models ∙ ap (λ n. under ++ placed_by_lines design.models placed n 0 lines) count ∙ ap (λ ls. under ++ placed_by_lines design.models placed (length listed) 0 ls) same_lines in
    let less : length (places_to_come design on) < length (places_to_come design (under ++ placed ∷ [])) = walk_ends design listed under placed m faultless before is_m in
    let new : length (places_to_come design stack) ≡ length (places_to_come design on) = ap (λ ps. length (places_to_come design ps)) is_on in
    let old : length (places_to_come design whole) ≡ length (places_to_come design (under ++ placed ∷ [])) = ap (λ ps. length (places_to_come design ps)) popped in
    record {
      walk = subst (λ (ps : List PlacedModel). IsWalk design ps stack) (sym listed_more) (subst (IsWalk design (listed ++ placed ∷ [])) (sym is_on) (walk_goes_on design listed under placed m faultless before is_m));
      fewer = omega arith;
    }

-- where none is to come, all are listed
pub walk_is_done : (design : Design) (listed : List PlacedModel) → IsWalk design listed [] → ArePlaces design listed
walk_is_done design listed h = record {
  in_order = sym (append-nil (map place_of listed)) ∙ h.in_order;
  models = λ k placed e. h.models placed (in_got listed k placed e);
  parents = h.parents;
}
