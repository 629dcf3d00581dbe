-- Names name the same latches in a design and in its flat netlist.
use Rattle.std.proofs.Common.{ℕ, ◌≡◌, ◌==◌, ◌&&◌, ◌||◌, ◌<◌, ◌+◌, inl, inr, List, [], ◌∷◌, Bool, true, false, Option, Some, None, slice_get, get_or, map, length, option_and_then, option_map, refl, sym, ap, ap₂, ◌∙◌, subst, true≢false, cond, not, arith}
use Rattle.std.specs.Bool.{then_some}
use Rattle.std.specs.List.{list_any, find, position, position_or_len}
use Rattle.std.specs.Option.{option_map_or}
use Rattle.std.specs.Str.{bytes_eq}
use Rattle.std.proofs.lemmas.Bool.{eqb-true, lt-ltb}
use Rattle.std.proofs.lemmas.Bool.Decides.{nat_tests}
use Rattle.std.proofs.lemmas.List.Quantifiers.{position-Some}
use Rattle.std.proofs.lemmas.Option.{none-some, slice_get-map, slice_get-get_or}
use Rattle.std.proofs.lemmas.Simd.{map-map}
use Rattle.lists.proofs.Members.{In, in_got, got_from, map_in, contains_from, passes_at, passes_somewhere}
use Rattle.lists.proofs.Names.{bytes_eq-turned}
use Rattle.netlist_core.specs.declared.model.Design.{Design}
use Rattle.netlist_core.specs.declared.model.Model.{Model}
use Rattle.netlist_core.specs.declared.model.LatchRow.{LatchRow}
use Rattle.netlist_core.specs.declared.flat.Flat.{Flat}
use Rattle.netlist_core.specs.declared.flat.FlatLatch.{FlatLatch}
use Rattle.netlist_core.specs.declared.flat.Net.{Net as FlatNet}
use Rattle.netlist_core.specs.Names.{Name}
use Rattle.netlist_core.specs.LatchNames.{is_main_net, class_named, drives_class, latch_named}
use Rattle.netlist_meaning.specs.Places.{Place, model_at}
use Rattle.netlist_meaning.specs.Nets.{Net, net_at, IsNet}
use Rattle.netlist_meaning.specs.InOrder.{of_some, places_in_order, nets_in_order}
use Rattle.netlist_meaning.specs.FlatOf.{at_places, class_of_net, position_of, is_same_net, flat_net, flat_latch, IsFlatOf}
use Rattle.netlist_rules.specs.ModelFaults.{AreFaultless}
use Rattle.flat_designs.proofs.Classes.{same_net, is_same, net_there, class_joined, joined_class}
use Rattle.flat_designs.proofs.Listed.{net_is, net_listed}
use Rattle.flat_designs.proofs.Lists.{map_flat}
use Rattle.flat_designs.proofs.Names.{latch_name, is_net_of}
use Rattle.flat_designs.proofs.Valuations.{placed}
use Rattle.flat_designs.proofs.Faultless.{not_recursive}
use Rattle.start_words.specs.Starts.{is_main_name, output_class}
use Rattle.start_words.specs.Laws.{HasNamedLatch, LatchesAreFlat, NamedLatchesAreJoined}

no_numbers : (place : Place) → (length place == 0) ≡ bytes_eq [] place
no_numbers [] = refl
no_numbers (n ∷ place) = grind (arith, nat_tests)

is_main : (design : Design) (name : Name) (net : Net) → is_main_net name (flat_net design net) ≡ is_same_net (net_at [] name) net
is_main design name net = ap₂ (λ (a b : Bool). a && b) (no_numbers net.place) (bytes_eq-turned net.name name)

-- the class that a name has is that of the main model's net of that name
pub class_is_named : (design : Design) (flat : Flat) → IsFlatOf design flat → (name : Name) → class_named flat.nets name ≡ then_some (is_main_name design name) (class_of_net design (net_at [] name))
class_is_named design flat h name = ap (λ (nets : List FlatNet). class_named nets name) h.nets ∙ by (nets_in_order design)
  where
    class : FlatNet → ℕ
    class net = net.class

    by : (nets : List Net) → class_named (map (flat_net design) nets) name ≡ then_some (list_any (is_same_net (net_at [] name)) nets) (class_of_net design (net_at [] name))
    by [] = refl
    by (net ∷ nets) =
        ap (λ (b : Bool). option_map class (cond b (Some (flat_net design net)) (find (is_main_net name) (map (flat_net design) nets)))) (is_main design name net)
        ∙ at (is_same_net (net_at [] name) net) refl (by nets)
      where
        at : (b : Bool) → is_same_net (net_at [] name) net ≡ b → class_named (map (flat_net design) nets) name ≡ then_some (list_any (is_same_net (net_at [] name)) nets) (class_of_net design (net_at [] name))
            → option_map class (cond b (Some (flat_net design net)) (find (is_main_net name) (map (flat_net design) nets)))
            ≡ then_some (b || list_any (is_same_net (net_at [] name)) nets) (class_of_net design (net_at [] name))
        at true e later = ap (λ (n : Net). Some (class_of_net design n)) (sym (same_net (net_at [] name) net e))
        at false e later = later

-- a latch's output is a net
pub output_is_net : (design : Design) (place : Place) (m : Model) (latch : LatchRow) → model_at design place ≡ Some m → In latch m.latches → IsNet design (net_at place latch.output)
output_is_net design place m latch is_m i = is_net_of design place m latch.output is_m (latch_name m latch latch.output i (inr (inl refl)))

-- and its class in the flat netlist
pub drives : (design : Design) (flat : Flat) → AreFaultless design.models → IsFlatOf design flat → (class : ℕ) (place : Place) (m : Model) (latch : LatchRow) → model_at design place ≡ Some m → In latch m.latches
    → drives_class flat.nets class (flat_latch design place latch) ≡ (output_class design place latch == class)
drives design flat faultless h class place m latch is_m i =
    let net = net_at place latch.output in
    let k = position_of (nets_in_order design) net in
    ap (λ (o : Option FlatNet). option_map_or (λ (n : FlatNet). n.class == class) o false)
    (ap (λ (xs : List FlatNet). slice_get xs k) h.nets ∙ slice_get-map (flat_net design) (nets_in_order design) k
    ∙ ap (option_map (flat_net design)) (net_there design faultless net (output_is_net design place m latch is_m i)))

any_map : {X : Type 0} (p : X → Bool) (xs : List X) → list_any p xs ≡ list_any (λ b. b) (map p xs)
any_map p [] = refl
any_map p (x ∷ xs) = ap (λ (b : Bool). p x || b) (any_map p xs)

latches_in : Model → List LatchRow
latches_in m = m.latches

-- the classes of the latches' outputs
outputs_are : (design : Design) (flat : Flat) → AreFaultless design.models → IsFlatOf design flat → (class : ℕ)
    → list_any (drives_class flat.nets class) flat.latches ≡ list_any (λ other. other == class) (at_places design (λ model. model.latches) (output_class design))
outputs_are design flat faultless h class =
    any_map (drives_class flat.nets class) flat.latches
    ∙ ap (list_any (λ b. b)) (ap (map (drives_class flat.nets class)) h.latches ∙ map_flat (drives_class flat.nets class) _ own (places_in_order design) at_flat ∙ sym (map_flat (λ other. other == class) _ own (places_in_order design) at_design))
    ∙ sym (any_map (λ other. other == class) (at_places design (λ model. model.latches) (output_class design)))
  where
    own : Place → List Bool
    own place = map (λ (l : LatchRow). output_class design place l == class) (of_some (λ (m : Model). m.latches) (model_at design place))

    of_model : (place : Place) (o : Option Model) → model_at design place ≡ o
        → map (drives_class flat.nets class) (map (flat_latch design place) (of_some (λ (m : Model). m.latches) o)) ≡ map (λ (l : LatchRow). output_class design place l == class) (of_some (λ (m : Model). m.latches) o)
    of_model place None e = refl
    of_model place (Some m) e =
        map-map (drives_class flat.nets class) (flat_latch design place) m.latches
        ∙ map_in (λ l. drives_class flat.nets class (flat_latch design place l)) (λ l. output_class design place l == class) m.latches (λ l i. drives design flat faultless h class place m l e i)

    at_flat : (place : Place) → In place (places_in_order design) → map (drives_class flat.nets class) (map (flat_latch design place) (of_some (λ (m : Model). m.latches) (model_at design place))) ≡ own place
    at_flat place i = of_model place (model_at design place) refl

    at_design : (place : Place) → In place (places_in_order design) → map (λ other. other == class) (map (output_class design place) (of_some (λ (m : Model). m.latches) (model_at design place))) ≡ own place
    at_design place i = map-map (λ other. other == class) (output_class design place) (of_some (λ (m : Model). m.latches) (model_at design place))

pub latches_are_flat : LatchesAreFlat
latches_are_flat design flat faultless h name =
    ap (option_and_then (λ class. then_some (list_any (drives_class flat.nets class) flat.latches) class)) (class_is_named design flat h name)
    ∙ by (is_main_name design name)
  where
    class : ℕ
    class = class_of_net design (net_at [] name)

    by : (b : Bool) → option_and_then (λ class. then_some (list_any (drives_class flat.nets class) flat.latches) class) (then_some b class)
        ≡ then_some (b && list_any (λ other. other == class) (at_places design (λ model. model.latches) (output_class design))) class
    by true = ap (λ (b : Bool). then_some b class) (outputs_are design flat faultless h class)
    by false = refl

-- ---- the latch that a name names

abbrev pub no_latch : FlatLatch
no_latch = record { line = 0; input = record { 0 = 0 }; output = record { 0 = 0 }; kind = None; control = None; init = 0 }

main_is_net : (design : Design) (name : Name) → is_main_name design name ≡ true → IsNet design (net_at [] name)
main_is_net design name e =
    let (net, i, same) = passes_at (is_same_net (net_at [] name)) (nets_in_order design) e in
    subst (IsNet design) (sym (same_net (net_at [] name) net same)) (net_is design net i)

net_is_main : (design : Design) → AreFaultless design.models → (name : Name) → IsNet design (net_at [] name) → is_main_name design name ≡ true
net_is_main design faultless name n =
    passes_somewhere (is_same_net (net_at [] name)) (nets_in_order design) (net_at [] name) (contains_from _ _ (net_listed design (not_recursive design faultless) (net_at [] name) n)) (is_same (net_at [] name) (net_at [] name) refl)

-- one that passes has a position
module _ {X : Type 0} (p : X → Bool) where
  within : (xs : List X) (x : X) → In x xs → p x ≡ true → position_or_len p xs < length xs
  within [] x i passes = absurd i
  within (y ∷ ys) x (inl same) passes = first (p y) (ap p (sym same) ∙ passes)
    where
      first : (b : Bool) → b ≡ true → cond (not b) (1 + position_or_len p ys) 0 < length (y ∷ ys)
      first true e = omega arith
      first false e = absurd (true≢false (sym e))
  within (y ∷ ys) x (inr i) passes = later (p y) (within ys x i passes)
    where
      later : (b : Bool) → position_or_len p ys < length ys → cond (not b) (1 + position_or_len p ys) 0 < length (y ∷ ys)
      later true less = omega arith
      later false less = omega (arith, less)

  pub not_nowhere : (xs : List X) (x : X) → In x xs → p x ≡ true → position p xs ≡ None → ⊥
  not_nowhere xs x i passes e =
      let less = within xs x i passes in
      none-some (position_or_len p xs) (sym e ∙ ap (λ (b : Bool). cond b (Some (position_or_len p xs)) None) (lt-ltb (position_or_len p xs) (length xs) less))

-- the position of the latch for a name of the main model, or none
at_class : (design : Design) (flat : Flat) → IsFlatOf design flat → (name : Name) (main : Bool) → is_main_name design name ≡ main
    → latch_named flat name ≡ cond main (position (drives_class flat.nets (class_of_net design (net_at [] name))) flat.latches) None
at_class design flat h name true e = ap (option_and_then (λ class. position (drives_class flat.nets class) flat.latches)) (class_is_named design flat h name ∙ ap (λ (b : Bool). then_some b (class_of_net design (net_at [] name))) e)
at_class design flat h name false e = ap (option_and_then (λ class. position (drives_class flat.nets class) flat.latches)) (class_is_named design flat h name ∙ ap (λ (b : Bool). then_some b (class_of_net design (net_at [] name))) e)

pub named_latches_are_joined : NamedLatchesAreJoined
named_latches_are_joined design flat faultless h name = record {
  named = λ position e. named position (is_main_name design name) refl e;
  unnamed = unnamed;
}
  where
    class : ℕ
    class = class_of_net design (net_at [] name)

    test : FlatLatch → Bool
    test = drives_class flat.nets class

    found : (k : ℕ) (latch : FlatLatch) → is_main_name design name ≡ true → slice_get flat.latches k ≡ Some latch → test latch ≡ true → HasNamedLatch design flat name k
    found k latch main at passes =
        let (place, m, l, is_m, i, e) = placed design (λ (m : Model). m.latches) (flat_latch design) latch (subst (In latch) h.latches (in_got flat.latches k latch at)) in
        let (number, is_l) = got_from m.latches l i in
        let same : output_class design place l ≡ class = eqb-true _ _ (sym (drives design flat faultless h class place m l is_m i) ∙ ap test (sym e) ∙ passes) in
        let net = main_is_net design name main in
        record {
          place = place;
          latch = l;
          is = record {
            number = number;
            is_latch = ap (option_and_then (λ (m : Model). slice_get m.latches number)) is_m ∙ is_l;
            is_flat = at ∙ ap (λ (l : FlatLatch). Some l) e;
          };
          is_net = net;
          joined = class_joined design faultless (net_at place l.output) (net_at [] name) (output_is_net design place m l is_m i) net same;
        }

    named : (k : ℕ) (main : Bool) → is_main_name design name ≡ main → latch_named flat name ≡ Some k → HasNamedLatch design flat name k
    named k false main e = absurd (none-some k (sym (at_class design flat h name false main) ∙ e))
    named k true main e =
        let (less, passes, _) = position-Some test flat.latches k no_latch (sym (at_class design flat h name true main) ∙ e) in
        found k (get_or flat.latches k no_latch) main (slice_get-get_or flat.latches k no_latch less) passes

    unnamed : latch_named flat name ≡ None → (k : ℕ) → HasNamedLatch design flat name k → ⊥
    unnamed none k has =
        let main = net_is_main design faultless name has.is_net in
        let nowhere : position test flat.latches ≡ None = sym (at_class design flat h name true main) ∙ none in
        let (m, is_m, i) = model_of (model_at design has.place) has.is.is_latch in
        let same : output_class design has.place has.latch ≡ class = joined_class design faultless (net_at has.place has.latch.output) (net_at [] name) has.joined in
        let passes : test (flat_latch design has.place has.latch) ≡ true = drives design flat faultless h class has.place m has.latch is_m i ∙ ap (λ c. c == class) same ∙ eqb-same class in
        not_nowhere test flat.latches (flat_latch design has.place has.latch) (in_got flat.latches k _ has.is.is_flat) passes nowhere
      where
        model_of : (o : Option Model) → option_and_then (λ (m : Model). slice_get m.latches has.is.number) o ≡ Some has.latch → (m : Model) × (o ≡ Some m) × In has.latch m.latches
        model_of None e = absurd (none-some _ e)
        model_of (Some m) e = (m, refl, in_got m.latches has.is.number has.latch e)

        eqb-same : (n : ℕ) → (n == n) ≡ true
        eqb-same n = grind (arith, nat_tests)
