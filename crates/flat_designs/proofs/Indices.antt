-- The position of what stands at a place, among what stands at places.
use Rattle.std.proofs.Common.{ℕ, ◌≡◌, ◌≢◌, ◌<◌, ◌≤◌, ◌+◌, ◌⊎◌, inl, inr, List, Some, slice_get, map, length, option_map, refl, sym, ap, ap₂, ◌∙◌, subst, arith}
use Rattle.std.proofs.lemmas.List.{length-map}
use Rattle.std.proofs.lemmas.Option.{slice_get-map, slice_get_within, same_Some}
use Rattle.std.proofs.lemmas.Bool.{cases_order}
use Rattle.netlist_core.specs.declared.model.Design.{Design}
use Rattle.netlist_core.specs.declared.model.Model.{Model}
use Rattle.netlist_meaning.specs.Places.{Place, model_at, IsBefore}
use Rattle.netlist_meaning.proofs.PlaceOrder.{places_are_ordered}
use Rattle.netlist_rules.specs.ModelFaults.{AreFaultless}
use Rattle.flat_designs.proofs.Faultless.{not_recursive}
use Rattle.netlist_meaning.specs.InOrder.{of_some, places_in_order}
use Rattle.netlist_meaning.specs.FlatOf.{at_places}
use Rattle.flat_designs.proofs.Lists.{Pairs, pairs_weaken, pair_at, one_place, start, From, from, into, start_less, in_some_map}
use Rattle.flat_designs.proofs.Listed.{ascend, place_is, place_listed}
use Rattle.lists.proofs.Members.{in_got, got_from}

abbrev pub row : {X Y : Type 0} → Design → (Model → List X) → (Place → X → Y) → Place → List Y
row design items f place = map (f place) (of_some items (model_at design place))

-- the position of a number at a place
pub record IsIndex {X Y : Type 0} (design : Design) (items : Model → List X) (f : Place → X → Y) (place : Place) (number n : ℕ) : Type 0 where
  pub at : ℕ
  pub is_place : slice_get (places_in_order design) at ≡ Some place
  pub is_index : n ≡ start (row design items f) (places_in_order design) at + number

pub record At {X Y : Type 0} (design : Design) (items : Model → List X) (f : Place → X → Y) (n : ℕ) (y : Y) : Type 0 where
  pub place : Place
  pub model : Model
  pub item : X
  pub number : ℕ
  pub has_model : model_at design place ≡ Some model
  pub has_item : slice_get (items model) number ≡ Some item
  pub is_value : f place item ≡ y
  pub index : IsIndex design items f place number n

pub at_of : {X Y : Type 0} (design : Design) (items : Model → List X) (f : Place → X → Y) (n : ℕ) (y : Y) → slice_get (at_places design items f) n ≡ Some y → At design items f n y
at_of design items f n y e =
    let r : From (row design items f) (places_in_order design) n y = from (row design items f) (places_in_order design) n y e in
    let (m, is_m) = place_is design r.item (in_got (places_in_order design) r.at r.item r.is_item) in
    let here : option_map (f r.item) (slice_get (items m) r.number) ≡ Some y = sym (slice_get-map (f r.item) (items m) r.number) ∙ sym (ap (λ o. slice_get (map (f r.item) (of_some items o)) r.number) is_m) ∙ r.is_here in
    let (x, is_x, is_y) = in_some_map (f r.item) (slice_get (items m) r.number) y here in
    record { place = r.item; model = m; item = x; number = r.number; has_model = is_m; has_item = is_x; is_value = is_y; index = record { at = r.at; is_place = r.is_item; is_index = r.is_place } }

pub index_of : {X Y : Type 0} (design : Design) → AreFaultless design.models → (items : Model → List X) (f : Place → X → Y) (place : Place) (m : Model) (number : ℕ) (x : X) → model_at design place ≡ Some m → slice_get (items m) number ≡ Some x
    → (n : ℕ) × IsIndex design items f place number n × (slice_get (at_places design items f) n ≡ Some (f place x))
index_of design faultless items f place m number x is_m is_x =
    let (at, is_place) = got_from (places_in_order design) place (place_listed design (not_recursive design faultless) place m is_m) in
    let here : slice_get (row design items f place) number ≡ Some (f place x) = ap (λ o. slice_get (map (f place) (of_some items o)) number) is_m ∙ slice_get-map (f place) (items m) number ∙ ap (option_map (f place)) is_x in
    (start (row design items f) (places_in_order design) at + number, record { at = at; is_place = is_place; is_index = refl }, into (row design items f) (places_in_order design) at number place (f place x) is_place here)

before_apart : (p q : Place) → IsBefore p q → p ≢ q
before_apart p q h e = places_are_ordered.never_itself q (subst (λ v. IsBefore v q) e h)

pub places_once : (design : Design) → Pairs (λ a b. a ≢ b) (places_in_order design)
places_once design = pairs_weaken IsBefore (λ a b. a ≢ b) (places_in_order design) before_apart (ascend design)

pub one_index : {X Y : Type 0} (design : Design) (items : Model → List X) (f : Place → X → Y) (p q : Place) (k j n m : ℕ) → IsIndex design items f p k n → IsIndex design items f q j m → p ≡ q → k ≡ j → n ≡ m
one_index design items f p q k j n m a b e g =
    let same : a.at ≡ b.at = one_place (places_in_order design) a.at b.at q (places_once design) (a.is_place ∙ ap Some e) b.is_place in
    a.is_index ∙ ap₂ (λ u v. start (row design items f) (places_in_order design) u + v) same g ∙ sym b.is_index

-- what comes before has the lower position
pub index_less : {X Y : Type 0} (design : Design) (items : Model → List X) (f : Place → X → Y) (p q : Place) (k j n m : ℕ) (model : Model) (x : X) → IsIndex design items f p k n → IsIndex design items f q j m
    → model_at design p ≡ Some model → slice_get (items model) k ≡ Some x → IsBefore p q ⊎ ((p ≡ q) × (k < j)) → n < m
index_less design items f p q k j n m model x a b is_m is_x (inl h) = by (cases_order a.at b.at)
  where
    within : k < length (row design items f p)
    within =
        let l : k < length (items model) = slice_get_within (items model) k x is_x in
        let same : length (row design items f p) ≡ length (items model) = ap (λ o. length (map (f p) (of_some items o))) is_m ∙ length-map (items model) (f p) in
        omega arith

    by : (a.at ≡ b.at) ⊎ ((a.at < b.at) ⊎ (b.at < a.at)) → n < m
    by (inr (inl l)) =
        let s : start (row design items f) (places_in_order design) a.at + length (row design items f p) ≤ start (row design items f) (places_in_order design) b.at = start_less (row design items f) (places_in_order design) a.at b.at p q a.is_place b.is_place l in
        let w : k < length (row design items f p) = within in
        let e : n ≡ start (row design items f) (places_in_order design) a.at + k = a.is_index in
        let g : m ≡ start (row design items f) (places_in_order design) b.at + j = b.is_index in
        omega arith
    by (inl e) = absurd (before_apart p q h (same_Some _ _ (sym a.is_place ∙ ap (slice_get (places_in_order design)) e ∙ b.is_place)))
    by (inr (inr l)) = absurd (places_are_ordered.never_itself p (places_are_ordered.goes_on p q p h (pair_at IsBefore (places_in_order design) b.at a.at q p (ascend design) l b.is_place a.is_place)))
index_less design items f p q k j n m model x a b is_m is_x (inr (e, l)) =
    let same : a.at ≡ b.at = one_place (places_in_order design) a.at b.at q (places_once design) (a.is_place ∙ ap Some e) b.is_place in
    let s : start (row design items f) (places_in_order design) a.at ≡ start (row design items f) (places_in_order design) b.at = ap (start (row design items f) (places_in_order design)) same in
    let e : n ≡ start (row design items f) (places_in_order design) a.at + k = a.is_index in
    let g : m ≡ start (row design items f) (places_in_order design) b.at + j = b.is_index in
    omega arith
