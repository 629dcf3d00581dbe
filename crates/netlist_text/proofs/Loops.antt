-- A loop of the flat netlist, as one of the design's nets by their names.
use Rattle.std.proofs.Common.{ℕ, suc, ◌≡◌, ◌≢◌, ◌<◌, refl, sym, ap, ◌∙◌, subst, List, [], ◌∷◌, length, map, get_or, slice_get, arith, Some}
use Rattle.std.specs.Prelude.{All, AllPairs}
use Rattle.std.proofs.lemmas.List.{get_or-map, length-map}
use Rattle.std.proofs.lemmas.List.Elements.{All-map}
use Rattle.std.proofs.lemmas.Option.{slice_get-get_or}
use Rattle.std.proofs.lemmas.Simd.{map-map}
use Rattle.netlist_core.specs.declared.model.Design.{Design}
use Rattle.netlist_core.specs.declared.flat.Flat.{Flat}
use Rattle.netlist_core.specs.declared.flat.NetId.{NetId}
use Rattle.netlist_core.specs.declared.flat.Net.{Net as FlatNet}
use Rattle.netlist_meaning.specs.Nets.{Net, net_at, IsNet}
use Rattle.netlist_meaning.specs.Roots.{root}
use Rattle.netlist_meaning.specs.InOrder.{nets_in_order}
use Rattle.netlist_meaning.specs.FlatOf.{position_of, id_of, class_of_net, flat_net, IsFlatOf}
use Rattle.netlist_meaning.specs.Flat.{class_of, name_of_net, IsNetId, no_net}
use Rattle.netlist_meaning.specs.FlatOrder.{IsFirstOfClass, IsNetLoop}
use Rattle.netlist_rules.specs.ModelFaults.{AreFaultless}
use Rattle.netlist_rules.specs.Clocks.{HasNoClockFault}
use Rattle.flat_designs.specs.Laws.{net_of_class}
use Rattle.flat_designs.proofs.Lists.{one_place}
use Rattle.flat_designs.proofs.Listed.{net_is, nets_once}
use Rattle.flat_designs.proofs.Classes.{net_there, flat_net_at, firsts_are_roots}
use Rattle.flat_designs.proofs.Loops.{loops_are_flat}
use Rattle.netlist_text.specs.NetlistText.{IsLight, HasLoop}
use Rattle.lists.proofs.Members.{in_got}

-- what is known of a net that is the first of its class: its own root, at its class's number
pub record First (design : Design) (flat : Flat) (id : NetId) : Type 0 where
  pub own : root design (net_of_class design (class_of flat id)) ≡ net_of_class design (class_of flat id)
  pub name : (net_of_class design (class_of flat id)).name ≡ name_of_net flat id
  pub class : class_of_net design (net_of_class design (class_of flat id)) ≡ class_of flat id

module _ (design : Design) (flat : Flat) (faultless : AreFaultless design.models) (h : IsFlatOf design flat) where
  first_is : (id : NetId) → IsNetId flat id → IsFirstOfClass flat id → First design flat id
  first_is id lt first =
      let nets = nets_in_order design in
      let many : length flat.nets ≡ length nets = ap (λ (xs : List FlatNet). length xs) h.nets ∙ length-map nets (flat_net design) in
      let net : Net = get_or nets id.0 (net_at [] []) in
      let is : slice_get nets id.0 ≡ Some net = slice_get-get_or nets id.0 (net_at [] []) (omega (arith, many, lt)) in
      let is_net : IsNet design net = net_is design net (in_got nets id.0 net is) in
      let here : position_of nets net ≡ id.0 = one_place nets (position_of nets net) id.0 net (nets_once design) (net_there design faultless net is_net) is in
      let same : id_of design net.place net.name ≡ id = ap (λ (k : ℕ). the_id k) here in
      let own : root design net ≡ net = (firsts_are_roots design flat faultless h net is_net).0 (subst (IsFirstOfClass flat) (sym same) first) in
      let found : get_or flat.nets id.0 no_net ≡ flat_net design net = flat_net_at design flat h id.0 net is in
      let class : class_of flat id ≡ class_of_net design net = ap (λ (x : FlatNet). x.class) found in
      let at : class_of flat id ≡ id.0 = class ∙ ap (position_of nets) own ∙ here in
      let named : net_of_class design (class_of flat id) ≡ net = ap (net_of_class design) at in
      record {
        own = ap (root design) named ∙ own ∙ sym named;
        name = ap (λ (n : Net). n.name) named ∙ sym (ap (λ (x : FlatNet). x.name) found);
        class = ap (class_of_net design) named ∙ sym class;
      }
    where
      the_id : ℕ → NetId
      the_id k = record { 0 = k }

  are_first : (nets : List NetId) → IsNetLoop flat nets → All (First design flat) nets
  are_first nets l = λ k d lt. first_is (get_or nets k d) (l.are_nets k d lt) (l.are_firsts k d lt)

-- elements that differ are mapped to such, where the map can be undone
distinct_map : {X Y : Type 0} (f : X → Y) (g : Y → X) (xs : List X) → All (λ x. g (f x) ≡ x) xs → AllPairs (λ a b. a ≢ b) xs → AllPairs (λ a b. a ≢ b) (map f xs)
distinct_map f g xs back h = λ i j d less lt same.
    let long = length-map xs f in
    let x = g d in
    let in_i : i < length xs = omega (arith, less, lt, long) in
    let in_j : j < length xs = omega (arith, lt, long) in
    h i j x less in_j
    (sym (back i x in_i) ∙ ap g (sym (get_or-map f xs i x d in_i) ∙ same ∙ get_or-map f xs j x d in_j) ∙ back j x in_j)

same_names : {X Y Z : Type 0} (f : Y → Z) (m : X → Y) (g : X → Z) (xs : List X) → All (λ x. f (m x) ≡ g x) xs → map f (map m xs) ≡ map g xs
same_names f m g [] h = refl
same_names f m g (x ∷ xs) h = cons (h 0 x (omega arith)) (same_names f m g xs (λ k d lt. h (suc k) d (omega (arith, lt))))
  where
    cons : {A : Type 0} {a b : A} {l m : List A} → a ≡ b → l ≡ m → a ∷ l ≡ b ∷ m
    cons e r = cc

-- the loop by the names of its nets
pub named_loop : (text : List ℕ) (design : Design) (flat : Flat) (nets : List NetId) → IsLight text design → HasNoClockFault design → IsFlatOf design flat → IsNetLoop flat nets
    → HasLoop text (map (name_of_net flat) nets)
named_loop text design flat nets is clean h l =
    let faultless = is.design_of.faultless in
    let classes = map (class_of flat) nets in
    let firsts = are_first design flat faultless h nets l in
    record {
      design = design;
      is = is;
      clocks = clean;
      nets = map (net_of_class design) classes;
      is_loop = (loops_are_flat design flat faultless h).of_flat classes l.is_loop;
      are_roots = All-map (λ net. root design net ≡ net) (net_of_class design) classes
          (All-map (λ class. root design (net_of_class design class) ≡ net_of_class design class) (class_of flat) nets (λ k d lt. (firsts k d lt).own));
      are_distinct = distinct_map (net_of_class design) (class_of_net design) classes
          (All-map (λ class. class_of_net design (net_of_class design class) ≡ class) (class_of flat) nets (λ k d lt. (firsts k d lt).class)) l.is_simple;
      are_names = sym (ap (map (λ (n : Net). n.name)) (map-map (net_of_class design) (class_of flat) nets)
          ∙ same_names (λ (n : Net). n.name) (λ id. net_of_class design (class_of flat id)) (name_of_net flat) nets (λ k d lt. (firsts k d lt).name));
    }
