-- The numbers of places and of their nets.
use Rattle.std.proofs.Common.{ℕ, ◌≡◌, ◌<◌, ◌≤◌, ◌+◌, ◌^◌, List, [], ◌++◌, Option, Some, None, slice_get, map, length, option_map, sym, ap, ◌∙◌, subst, arith}
use Rattle.std.proofs.lemmas.List.{length-map}
use Rattle.std.proofs.lemmas.Simd.{map-map}
use Rattle.std.proofs.lemmas.Option.{slice_get-map, slice_get-get_or, slice_get_within, get_or_from_slice_get, same_Some}
use denote.Ref.{Bor}
use Rattle.std.specs.Prelude.{MatchOption, Contains, unwrap_or}
use Rattle.netlist_core.specs.declared.model.Design.{Design}
use Rattle.netlist_core.specs.declared.model.Model.{Model}
use Rattle.netlist_core.specs.Names.{Name}
use Rattle.netlist_meaning.specs.Places.{Place, model_at}
use Rattle.netlist_meaning.specs.Nets.{Net, net_at, IsNet}
use Rattle.netlist_meaning.specs.InOrder.{of_some, places_in_order, names_in_order, nets_at, nets_in_order}
use Rattle.netlist_meaning.specs.FlatOf.{position_of}
use Rattle.netlist_meaning.specs.Weight.{weight}
use Rattle.netlist_rules.specs.ModelFaults.{AreFaultless}
use Rattle.lists.proofs.Members.{In, in_from, contains_from, in_got}
use Rattle.flat_designs.proofs.Lists.{one_place}
use Rattle.flat_designs.proofs.Listed.{place_is, nets_once, name_listed}
use Rattle.flat_designs.proofs.Classes.{position_at}
use Rattle.flat_designs.proofs.Weights.{nets_are_few}
use Rattle.design_walks.specs.declared.placed.PlacedModel.{PlacedModel}
use Rattle.design_walks.specs.Places.{ArePlaces}
use Rattle.netlist_flatten.specs.Numbered.{place_at, nets_before}
use Rattle.netlist_flatten.specs.Tables.{AreTables}
use Rattle.lists.proofs.Cuts.{got_left, got_right, flat_cut, flat_within}

-- the place of a number, and a model there
pub got_place : (design : Design) (k : ℕ) → k < length (places_in_order design) → slice_get (places_in_order design) k ≡ Some (place_at design k)
got_place design k l = slice_get-get_or (places_in_order design) k [] l

pub model_there : (design : Design) (k : ℕ) → k < length (places_in_order design) → (m : Model) × (model_at design (place_at design k) ≡ Some m)
model_there design k l = place_is design (place_at design k) (in_got (places_in_order design) k (place_at design k) (got_place design k l))

-- a net at a place stands among all after those before the place
pub net_there_at : (design : Design) (k j : ℕ) (net : Net) → k < length (places_in_order design) → slice_get (nets_at design (place_at design k)) j ≡ Some net → slice_get (nets_in_order design) (length (nets_before design k) + j) ≡ Some net
net_there_at design k j net l e =
    let (rest, cut) = flat_cut (nets_at design) (places_in_order design) k (place_at design k) (got_place design k l) in
    ap (λ (xs : List Net). slice_get xs (length (nets_before design k) + j)) cut
    ∙ got_right (nets_before design k) (nets_at design (place_at design k) ++ rest) j
    ∙ got_left (nets_at design (place_at design k)) rest j net e

-- what stands at a number has it
pub number_is : (design : Design) (i : ℕ) (net : Net) → slice_get (nets_in_order design) i ≡ Some net → position_of (nets_in_order design) net ≡ i
number_is design i net e = one_place (nets_in_order design) _ i net (nets_once design) (position_at (nets_in_order design) net (in_got (nets_in_order design) i net e)) e

pub position_is : (design : Design) (k j : ℕ) (net : Net) → k < length (places_in_order design) → slice_get (nets_at design (place_at design k)) j ≡ Some net → position_of (nets_in_order design) net ≡ length (nets_before design k) + j
position_is design k j net l e = number_is design (length (nets_before design k) + j) net (net_there_at design k j net l e)

-- numbers are small
pub number_below : (design : Design) (k j : ℕ) (net : Net) → k < length (places_in_order design) → slice_get (nets_at design (place_at design k)) j ≡ Some net → length (nets_before design k) + j < length (nets_in_order design)
number_below design k j net l e = slice_get_within (nets_in_order design) (length (nets_before design k) + j) net (net_there_at design k j net l e)

pub few_nets : (design : Design) → AreFaultless design.models → weight design < 2 ^ 32 → length (nets_in_order design) < 2 ^ 32
few_nets design faultless few = let h : length (nets_in_order design) ≤ weight design = nets_are_few design faultless in omega arith

-- the nets at a place, by the names of its model
pub nets_by_names : (design : Design) (place : Place) (m : Model) → model_at design place ≡ Some m → nets_at design place ≡ map (net_at place) (names_in_order m)
nets_by_names design place m e = ap (λ o. map (net_at place) (of_some names_in_order o)) e

-- a net has its name among those of the model at its place
pub name_there : (design : Design) (place : Place) (name : Name) (m : Model) → model_at design place ≡ Some m → IsNet design (net_at place name) → In name (names_in_order m)
name_there design place name m e (own, is_own, c) = subst (λ (v : Model). In name (names_in_order v)) (same_Some _ _ (sym is_own ∙ e)) (name_listed own name (in_from _ name c))

-- what is known at a place
pub record AtPlace (design : Design) (names : List (Option (List Name))) (k : ℕ) (at : PlacedModel) : Type 0 where
  pub model : Model
  pub is_place : at.place ≡ place_at design k
  pub is_model : slice_get design.models at.model ≡ Some model
  pub is_placed : model_at design (place_at design k) ≡ Some model
  pub has_names : slice_get names at.model ≡ Some (Some (names_in_order model))

pub place_count : (design : Design) (placed : List PlacedModel) → ArePlaces design placed → length placed ≡ length (places_in_order design)
place_count design placed h = sym (length-map placed (λ (p : PlacedModel). p.place)) ∙ ap length h.in_order

pub placed_at : (design : Design) (placed : List PlacedModel) (k : ℕ) (at : PlacedModel) → ArePlaces design placed → slice_get placed k ≡ Some at → at.place ≡ place_at design k
placed_at design placed k at h e =
    sym (get_or_from_slice_get (places_in_order design) k at.place []
    (ap (λ (xs : List Place). slice_get xs k) (sym h.in_order) ∙ slice_get-map (λ (p : PlacedModel). p.place) placed k ∙ ap (option_map (λ (p : PlacedModel). p.place)) e))

pub at_place : (design : Design) (placed : List PlacedModel) (names : List (Option (List Name))) (firsts : List ℕ) (k : ℕ) (at : PlacedModel) → AreTables design placed names firsts → slice_get placed k ≡ Some at → AtPlace design names k at
at_place design placed names firsts k at t e =
    let here : at.place ≡ place_at design k = placed_at design placed k at t.are_places e in
    let stands : model_at design at.place ≡ slice_get design.models at.model = (t.are_places.models k at e).is_placed in
    let (m, is_m) = model_there design k (let l : k < length placed = slice_get_within placed k at e in subst (λ n. k < n) (place_count design placed t.are_places) l) in
    let is_model : slice_get design.models at.model ≡ Some m = sym stands ∙ ap (model_at design) here ∙ is_m in
    let (own, is_own) = t.are_names.known k at e in
    record { model = m; is_place = here; is_model = is_model; is_placed = is_m; has_names = is_own ∙ ap (λ (v : List Name). Some (Some v)) (t.are_names.right at.model m own is_model is_own) }

-- what a method of `Numbers` takes from its fields
pub place_held : (design inside : Design) (placed : List PlacedModel) (names : List (Option (List Name))) (firsts : List ℕ) (k : ℕ) (at : PlacedModel) → inside ≡ design → AreTables inside placed names firsts → slice_get placed k ≡ Some at → AtPlace design names k at
place_held design inside placed names firsts k at same t e = at_place design placed names firsts k at (subst (λ (d : Design). AreTables d placed names firsts) same t) e

pub own_names : {names : List (Option (List Name))} {design : Design} {k : ℕ} {at : PlacedModel} (h : AtPlace design names k at) (own : Option (List Name)) → slice_get names at.model ≡ Some own → own ≡ Some (names_in_order h.model)
own_names h own e = same_Some _ _ (sym e ∙ h.has_names)

-- where a name stands among the names of the model, its net stands among the nets at the place
pub position_there : (design : Design) (place : Place) (m : Model) (name : Name) (found : Option ℕ) → model_at design place ≡ Some m → IsNet design (net_at place name)
    → MatchOption found (¬ Contains (names_in_order m) name) (λ position. slice_get (names_in_order m) position ≡ Some name) → slice_get (nets_at design place) (unwrap_or found 0) ≡ Some (net_at place name)
position_there design place m name None e net away = absurd (away (contains_from (names_in_order m) name (name_there design place name m e net)))
position_there design place m name (Some position) e net there =
    ap (λ (xs : List Net). slice_get xs position) (nets_by_names design place m e) ∙ slice_get-map (net_at place) (names_in_order m) position ∙ ap (option_map (net_at place)) there

-- the nets at a place by names that are lent
pub named_nets : (design : Design) (place : Place) (m : Model) (names : List (Bor Name)) → model_at design place ≡ Some m → map (λ (name : Bor Name). name.now) names ≡ names_in_order m
    → nets_at design place ≡ map (λ (name : Bor Name). net_at place name.now) names
named_nets design place m names e same = nets_by_names design place m e ∙ ap (map (net_at place)) (sym same) ∙ map-map (net_at place) (λ (name : Bor Name). name.now) names

-- the first number that is kept
pub first_within : (design inside : Design) (placed : List PlacedModel) (names : List (Option (List Name))) (firsts : List ℕ) (k : ℕ) → inside ≡ design → AreTables inside placed names firsts → k < length (places_in_order design) → k < length firsts
first_within design inside placed names firsts k same t l =
    let many : length placed ≡ length (places_in_order inside) = place_count inside placed t.are_places in
    slice_get_within firsts k _ (t.are_firsts k (subst (λ n. k < n) (sym (many ∙ ap (λ (d : Design). length (places_in_order d)) same)) l))

pub first_held : (design inside : Design) (placed : List PlacedModel) (names : List (Option (List Name))) (firsts : List ℕ) (k first : ℕ) → inside ≡ design → AreTables inside placed names firsts → k < length (places_in_order design)
    → slice_get firsts k ≡ Some first → first ≡ length (nets_before design k)
first_held design inside placed names firsts k first same t l e =
    let many : length placed ≡ length (places_in_order inside) = place_count inside placed t.are_places in
    let within : k < length placed = subst (λ n. k < n) (sym (many ∙ ap (λ (d : Design). length (places_in_order d)) same)) l in
    same_Some _ _ (sym e ∙ t.are_firsts k within) ∙ ap (λ (d : Design). length (nets_before d k)) same

-- a place's nets and those before it are few
pub own_few : (design : Design) (k : ℕ) → AreFaultless design.models → weight design < 2 ^ 32 → k < length (places_in_order design) → length (nets_before design k) + length (nets_at design (place_at design k)) < 2 ^ 32
own_few design k faultless few l =
    let within : length (nets_before design k) + length (nets_at design (place_at design k)) ≤ length (nets_in_order design) = flat_within (nets_at design) (places_in_order design) k (place_at design k) (got_place design k l) in
    let all : length (nets_in_order design) < 2 ^ 32 = few_nets design faultless few in
    omega arith
