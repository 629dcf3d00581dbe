-- How deep places are in a design whose models do not stand inside themselves.
use Rattle.std.proofs.Common.{ℕ, suc, ◌≡◌, ◌≢◌, ◌≤◌, ◌+◌, List, [], ◌∷◌, ◌++◌, Bool, true, false, cond, ◌||◌, ◌&&◌, Option, Some, None, slice_get, map, find, length, is_some, option_and_then, refl, sym, ap, ◌∙◌, arith, bytes_eq, nat_lt, true≢false, inl, inr}
use Rattle.std.specs.List.{list_any, AllByRecursion, IsDistinct}
use Rattle.std.proofs.lemmas.Slice.Eq.{bytes_eq-Decides}
use Rattle.std.proofs.lemmas.Map.Made.{length-le_from_is_member}
use Rattle.std.proofs.lemmas.Option.{none-some, same_Some}
use Rattle.std.proofs.lemmas.Bool.Decides.{Decides-ltb}
use Rattle.netlist_core.specs.declared.model.Design.{Design}
use Rattle.netlist_core.specs.declared.model.Model.{Model}
use Rattle.netlist_core.specs.Names.{Name, model_named}
use Rattle.netlist_meaning.specs.Places.{Place, main_model, model_placed, model_below, model_at}
use Rattle.netlist_meaning.specs.Laws.{PlacesAreShallow, WeightIsSumOverAll}
use Rattle.lists.proofs.Names.{bytes_eq-same, bytes_eq-other, names_are_equal}
use Rattle.lists.specs.Items.{one_if}
use Rattle.netlist_meaning.proofs.Names.{and_then-from}
use Rattle.netlist_meaning.proofs.Places.{weight_is_sum}
use Rattle.std.proofs.lemmas.Bool.{or_cases as either, or_left, or_right}

and_then-append : {X : Type 0} (f g h : X → Option X) → ((x : X) → f x ≡ option_and_then g (h x)) → (o : Option X) → option_and_then f o ≡ option_and_then g (option_and_then h o)
and_then-append f g h same None = refl
and_then-append f g h same (Some x) = same x

-- a place inside a place
pub model_below-append : (design : Design) (outer inner : Place) (model : Model) → model_below design (outer ++ inner) model ≡ option_and_then (model_below design inner) (model_below design outer model)
model_below-append design [] inner model = refl
model_below-append design (number ∷ outer) inner model =
    and_then-append (model_below design (outer ++ inner)) (model_below design inner) (model_below design outer) (model_below-append design outer inner) (model_placed design model number)

pub model_at-append : (design : Design) (outer inner : Place) → model_at design (outer ++ inner) ≡ option_and_then (model_below design inner) (model_at design outer)
model_at-append design outer inner =
    and_then-append (model_below design (outer ++ inner)) (model_below design inner) (model_below design outer) (model_below-append design outer inner) (main_model design)

all_members : (P : Name → Type 0) (xs : List Name) → ((q : Name) → list_any (bytes_eq q) xs ≡ true → P q) → AllByRecursion P xs
all_members P [] each = tt
all_members P (x ∷ xs) each =
    (each x (or_left (bytes_eq x x) _ (bytes_eq-same x)), all_members P xs (λ q e. each q (or_right (bytes_eq q x) _ e)))

-- the names of the models along a place, from a model on
names_of : (Model → List Name) → Option Model → List Name
names_of names None = []
names_of names (Some model) = names model

names_along : Design → Place → Model → List Name
names_along design [] model = model.name ∷ []
names_along design (number ∷ place) model = model.name ∷ names_of (names_along design place) (model_placed design model number)

-- each is the name of a model on the way
named-member : (design : Design) (number : ℕ) (place : Place) (model : Model) (q : Name) → ((m : Model) → list_any (bytes_eq q) (names_along design place m) ≡ true → (inner : Place) × (b : Model) × (model_below design inner m ≡ Some b) × (b.name ≡ q))
    → (placed : Option Model) → model_placed design model number ≡ placed → list_any (bytes_eq q) (names_of (names_along design place) placed) ≡ true
    → (inner : Place) × (b : Model) × (model_below design (number ∷ inner) model ≡ Some b) × (b.name ≡ q)
unfolding names_of
named-member design number place model q each None is_placed e = absurd (true≢false (sym e))
named-member design number place model q each (Some m) is_placed e =
    let (inner, b, is_b, is_q) = each m e in
    (inner, b, ap (option_and_then (model_below design inner)) is_placed ∙ is_b, is_q)

along-member : (design : Design) (place : Place) (model : Model) (q : Name) → list_any (bytes_eq q) (names_along design place model) ≡ true → (inner : Place) × (b : Model) × (model_below design inner model ≡ Some b) × (b.name ≡ q)
unfolding names_along
along-member design [] model q e =
    elim (either (bytes_eq q model.name) false e) [
      | inl same ↦ ([], model, refl, sym ((bytes_eq-Decides q model.name).0 same))
      | inr f ↦ absurd (true≢false (sym f))
    ]
along-member design (number ∷ place) model q e =
    elim (either (bytes_eq q model.name) _ e) [
      | inl same ↦ ([], model, refl, sym ((bytes_eq-Decides q model.name).0 same))
      | inr rest ↦
          let (inner, b, is_b, is_q) = named-member design number place model q (λ m. along-member design place m q) (model_placed design model number) refl rest in
          (number ∷ inner, b, is_b, is_q)
    ]

-- no model below a model stands inside a place of itself
NotRecursiveBelow : Design → Model → Type 0
NotRecursiveBelow design model =
    (outer inner : Place) (a b : Model) → inner ≢ [] → model_below design outer model ≡ Some a → model_below design inner a ≡ Some b → a.name ≢ b.name

placed-distinct : (design : Design) (number : ℕ) (place : Place) (model : Model) → NotRecursiveBelow design model → ((m : Model) → NotRecursiveBelow design m → IsDistinct bytes_eq (names_along design place m))
    → (placed : Option Model) → model_placed design model number ≡ placed → IsDistinct bytes_eq (names_of (names_along design place) placed)
unfolding names_of IsDistinct NotRecursiveBelow
placed-distinct design number place model away each None is_placed = tt
placed-distinct design number place model away each (Some m) is_placed =
    each m (λ outer inner a b some is_a is_b. away (number ∷ outer) inner a b some (ap (option_and_then (model_below design outer)) is_placed ∙ is_a) is_b)

along-distinct : (design : Design) (place : Place) (model : Model) → NotRecursiveBelow design model → IsDistinct bytes_eq (names_along design place model)
unfolding names_along IsDistinct NotRecursiveBelow
along-distinct design [] model away = (tt, tt)
along-distinct design (number ∷ place) model away =
    (all_members (λ y. bytes_eq model.name y ≡ false) _ differs, placed-distinct design number place model away (along-distinct design place) (model_placed design model number) refl)
  where
    not_nil : (inner : Place) → number ∷ inner ≢ []
    not_nil inner e = let long : length (number ∷ inner) ≡ 0 = ap length e in absurd (omega arith)

    differs : (q : Name) → list_any (bytes_eq q) (names_of (names_along design place) (model_placed design model number)) ≡ true → bytes_eq model.name q ≡ false
    differs q e =
        let (inner, b, is_b, is_q) = named-member design number place model q (λ m. along-member design place m q) (model_placed design model number) refl e in
        bytes_eq-other model.name q (λ same. away [] (number ∷ inner) model b (not_nil inner) refl is_b (same ∙ sym is_q))

-- is the name one of the design's models?
has_name : Design → Name → Bool
has_name design name = list_any (bytes_eq name) (map (λ model. model.name) design.models)

found-member : (test : Model → Bool) (models : List Model) (model : Model) → find test models ≡ Some model → list_any (bytes_eq model.name) (map (λ m. m.name) models) ≡ true
found-member test [] model e = absurd (none-some model e)
found-member test (first ∷ models) model e = by_test (found-member test models model) (test first) e
  where
    by_test : (find test models ≡ Some model → list_any (bytes_eq model.name) (map (λ m. m.name) models) ≡ true) → (t : Bool) → cond t (Some first) (find test models) ≡ Some model → (bytes_eq model.name first.name || list_any (bytes_eq model.name) (map (λ m. m.name) models)) ≡ true
    by_test rest true e = or_left _ _ (ap (λ m. bytes_eq model.name m.name) (same_Some _ _ e) ∙ bytes_eq-same model.name)
    by_test rest false e = or_right (bytes_eq model.name first.name) _ (rest e)

first-member : (models : List Model) (model : Model) → slice_get models 0 ≡ Some model → list_any (bytes_eq model.name) (map (λ m. m.name) models) ≡ true
first-member [] model e = absurd (none-some model e)
first-member (first ∷ models) model e = or_left _ _ (ap (λ m. bytes_eq model.name m.name) (same_Some _ _ e) ∙ bytes_eq-same model.name)

below-member : (design : Design) (place : Place) (model b : Model) → has_name design model.name ≡ true → model_below design place model ≡ Some b → has_name design b.name ≡ true
unfolding has_name
below-member design [] model b known e = ap (λ m. has_name design m.name) (sym (same_Some _ _ e)) ∙ known
below-member design (number ∷ place) model b known e =
    let (m, is_placed, is_b) = and_then-from (model_below design place) (model_placed design model number) b e in
    let (line, is_line, is_named) = and_then-from (λ l. model_named design.models l.model) (slice_get model.subckts number) m is_placed in
    below-member design place m b (found-member (λ x. bytes_eq x.name line.model) design.models m is_named) is_b

length-along : (design : Design) (place : Place) (model b : Model) → model_below design place model ≡ Some b → length (names_along design place model) ≡ length place + 1
unfolding names_along names_of
length-along design [] model b e = refl
length-along design (number ∷ place) model b e =
    let (m, is_placed, is_b) = and_then-from (model_below design place) (model_placed design model number) b e in
    let long : length (names_along design place m) ≡ length place + 1 = length-along design place m b is_b in
    let same : length (names_of (names_along design place) (model_placed design model number)) ≡ length place + 1 = ap (λ o. length (names_of (names_along design place) o)) is_placed ∙ long in
    omega arith

pub some_from : {X : Type 0} (o : Option X) → is_some o ≡ true → (x : X) × (o ≡ Some x)
some_from None e = absurd (true≢false (sym e))
some_from (Some x) e = (x, refl)

length-names : (models : List Model) → length (map (λ m. m.name) models) ≡ length models
length-names [] = refl
length-names (model ∷ models) = let e = length-names models in ap suc e

pub places_are_shallow : PlacesAreShallow
unfolding has_name NotRecursiveBelow
places_are_shallow design away place is_place =
    let (b, is_b) = some_from (model_at design place) is_place in
    let (main, is_main, is_below) = and_then-from (model_below design place) (main_model design) b is_b in
    let below : NotRecursiveBelow design main = λ outer inner a c some is_a is_c. away outer inner a c some (ap (option_and_then (model_below design outer)) is_main ∙ is_a) (model_at-append design outer inner ∙ ap (option_and_then (model_below design inner)) (ap (option_and_then (model_below design outer)) is_main ∙ is_a) ∙ is_c) in
    let few : length (names_along design place main) ≤ length (map (λ m. m.name) design.models) =
    length-le_from_is_member names_are_equal (names_along design place main) (map (λ m. m.name) design.models) (along-distinct design place main below)
    (λ q e. known main is_main q (along-member design place main q e)) in
    let long : length (names_along design place main) ≡ length place + 1 = length-along design place main b is_below in
    let same : length (map (λ m. m.name) design.models) ≡ length design.models = length-names design.models in
    omega arith
  where
    known : (main : Model) → main_model design ≡ Some main → (q : Name) → (inner : Place) × (b : Model) × (model_below design inner main ≡ Some b) × (b.name ≡ q) → has_name design q ≡ true
    known main is_main q (inner, b, is_b, is_q) =
        ap (has_name design) (sym is_q) ∙ below-member design inner main b (first-member design.models main is_main) is_b

pub weight_is_sum_over_all : WeightIsSumOverAll
weight_is_sum_over_all design away =
    let (places, listed, weighs) = weight_is_sum design in
    (places, λ place. listed place ∙ counted place (is_some (model_at design place)) refl, weighs)
  where
    counted : (place : Place) (there : Bool) → is_some (model_at design place) ≡ there → one_if (is_some (model_at design place) && nat_lt (length place) (length design.models)) ≡ one_if (is_some (model_at design place))
    counted place true e =
        ap (λ t. one_if (t && nat_lt (length place) (length design.models))) e
        ∙ ap one_if ((Decides-ltb (length place) (length design.models)).1 (places_are_shallow design away place e))
        ∙ sym (ap one_if e)
    counted place false e = ap (λ t. one_if (t && nat_lt (length place) (length design.models))) e ∙ sym (ap one_if e)
