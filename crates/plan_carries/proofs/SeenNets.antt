-- The nets of a design but the clock nets, in its flat netlist.
use Rattle.std.proofs.Common.{◌≡◌, ◌≢◌, refl, sym, ◌∙◌, ap, ap₂, subst, ℕ, ◌<◌, ◌≤◌, ◌^◌, Bool, true, false, true≢false, not, cond, inl, inr, List, [], ◌∷◌, ◌++◌, filter, length, map, arith}
use Rattle.std.specs.Prelude.{Some, slice_get, option_and_then, All, AllPairs}
use Rattle.std.proofs.lemmas.Bool.{not-true}
use Rattle.std.proofs.lemmas.Option.{slice_get_within}
use Rattle.std.proofs.lemmas.Simd.{map-map}
use Rattle.std.proofs.lemmas.List.Elements.{All-cons, All-map}
use Rattle.netlist_core.specs.declared.model.Design.{Design}
use Rattle.netlist_core.specs.declared.model.Model.{Model}
use Rattle.netlist_core.specs.declared.model.Subckt.{Subckt}
use Rattle.netlist_core.specs.declared.flat.Net.{Net as FlatNet}
use Rattle.netlist_core.specs.declared.flat.Flat.{Flat}
use Rattle.netlist_core.specs.Names.{model_named}
use Rattle.netlist_meaning.specs.Places.{Place, main_model, model_placed, model_below, model_at}
use Rattle.netlist_meaning.specs.Nets.{Net, IsNet, IsClockNet}
use Rattle.netlist_meaning.specs.Weight.{weight}
use Rattle.netlist_meaning.specs.InOrder.{nets_in_order}
use Rattle.netlist_meaning.specs.Flat.{IsClockClass, is_clock_class, listed_nets, nets_but_clocks}
use Rattle.netlist_meaning.specs.Valuation.{Valuation, LatchState, IsValuation}
use Rattle.netlist_meaning.specs.FlatOf.{class_of_net, flat_net, IsFlatOf}
use Rattle.netlist_meaning.proofs.ClockTest.{is_clock_class-Decides}
use Rattle.netlist_meaning.proofs.Depth.{model_at-append}
use Rattle.netlist_meaning.proofs.Names.{and_then-from}
use Rattle.netlist_rules.specs.FaultNames.{fault_on}
use Rattle.netlist_rules.specs.declared.fault.FaultKind.TheVariants.{TwoClocks}
use Rattle.netlist_rules.specs.ModelFaults.{AreFaultless}
use Rattle.netlist_rules.specs.Clocks.{HasNoClockFault, HasOneClock, two_clocks}
use Rattle.lists.proofs.Members.{In, in_got}
use Rattle.flat_designs.specs.Laws.{class_bits}
use Rattle.flat_designs.proofs.Lists.{all_of, all_pairs, pairs_map}
use Rattle.flat_designs.proofs.Listed.{net_is, nets_once}
use Rattle.flat_designs.proofs.Classes.{class_is}
use Rattle.flat_designs.proofs.Clocks.{clock_class}
use Rattle.flat_designs.proofs.ClockFaults.{clock_classes_are_clock_nets}
use Rattle.flat_designs.proofs.Valuations.{same_bit}
use Rattle.flat_designs.proofs.FewLines.{lines_are_few}
use Rattle.place_paths.specs.Paths.{HasTableNumbers, name_and_path}
use Rattle.plan_ports.specs.Tables.{HasTablePlaces, named_paths}
use Rattle.plan_ports.proofs.Listed.{all_listed, pairs_listed}
use Rattle.carries.specs.Nets.{WithoutClocks, AreSeenNets}

-- The numbers of places are no greater than a table may write.

numbers_fit : (design : Design) → AreFaultless design.models → weight design < 2 ^ 31 → (outer place : Place) (m b : Model) → model_at design outer ≡ Some m → model_below design place m ≡ Some b → HasTableNumbers place
numbers_fit design faultless small outer [] m b at below = λ k d lt. absurd (omega (arith, lt))
numbers_fit design faultless small outer (number ∷ place) m b at below =
    let (inner, is_inner, is_b) = and_then-from (model_below design place) (model_placed design m number) b below in
    let (line, is_line, is_named) = and_then-from (λ (l : Subckt). model_named design.models l.model) (slice_get m.subckts number) inner is_inner in
    let within : number < length m.subckts = slice_get_within m.subckts number line is_line in
    let most : length m.subckts ≤ weight design = lines_are_few design faultless outer m at in
    let deeper : model_at design (outer ++ number ∷ []) ≡ Some inner =
    model_at-append design outer (number ∷ []) ∙ ap (option_and_then (model_below design (number ∷ []))) at ∙ ap (option_and_then (model_below design [])) is_inner in
    All-cons (λ n. n < 2 ^ 64) number place (omega (arith, within, most, small)) (numbers_fit design faultless small (outer ++ number ∷ []) place inner b deeper is_b)

place_fits : (design : Design) → AreFaultless design.models → weight design < 2 ^ 31 → (net : Net) → IsNet design net → HasTableNumbers net.place
place_fits design faultless small net (m, is_m, named) =
    let (main, is_main, below) = and_then-from (model_below design net.place) (main_model design) m is_m in
    numbers_fit design faultless small [] net.place main m (ap (option_and_then (model_below design [])) is_main) below

-- the places of the nets of a design's flat netlist can stand in a port table
pub places_fit : (design : Design) (flat : Flat) → AreFaultless design.models → weight design < 2 ^ 31 → IsFlatOf design flat → HasTablePlaces flat
places_fit design flat faultless small h = record {
  numbers = all_listed (λ (net : FlatNet). HasTableNumbers net.place) flat
      (subst (All (λ (net : FlatNet). HasTableNumbers net.place)) (sym h.nets)
      (All-map (λ (net : FlatNet). HasTableNumbers net.place) (flat_net design) (nets_in_order design)
      (all_of (λ (net : Net). HasTableNumbers net.place) (nets_in_order design) (λ net i. place_fits design faultless small net (net_is design net i)))));
  apart = pairs_listed (λ (a b : FlatNet). a.name ≡ b.name → a.place ≢ b.place) flat
      (subst (AllPairs (λ (a b : FlatNet). a.name ≡ b.name → a.place ≢ b.place)) (sym h.nets)
      (all_pairs (λ (a b : FlatNet). a.name ≡ b.name → a.place ≢ b.place) (map (flat_net design) (nets_in_order design))
      (pairs_map (λ (a b : Net). a ≢ b) (λ (a b : FlatNet). a.name ≡ b.name → a.place ≢ b.place) (flat_net design) (nets_in_order design)
      (λ a b other same_name same_place. other (ap₂ net_of same_place same_name)) (nets_once design))));
}
  where
    net_of : Place → List ℕ → Net
    net_of place name = record { place = place; name = name }

-- the nets whose class is no clock's
abbrev is_seen : Design → Flat → Net → Bool
is_seen design flat net = not (is_clock_class flat (class_of_net design net))

abbrev pub seen_nets : Design → Flat → List Net
seen_nets design flat = filter (is_seen design flat) (nets_in_order design)

module _ (design : Design) (flat : Flat) (faultless : AreFaultless design.models) (clean : HasNoClockFault design) (h : IsFlatOf design flat) where
  one_clock : HasOneClock design
  one_clock line word t = clean (fault_on TwoClocks line word) (two_clocks t)

  unseen : (net : Net) → IsNet design net → is_clock_class flat (class_of_net design net) ≡ true → IsClockNet design net
  unseen net n e = clock_class design flat faultless h net n ((is_clock_class-Decides flat (class_of_net design net)).0 e)

  seen : (net : Net) → IsNet design net → is_clock_class flat (class_of_net design net) ≡ false → ¬ IsClockNet design net
  seen net n e clock =
      let c = (clock_classes_are_clock_nets design flat faultless one_clock h net n).1 clock in
      true≢false (sym ((is_clock_class-Decides flat (class_of_net design net)).1 (subst (IsClockClass flat) (class_is design flat faultless h net n) c)) ∙ e)

  -- they are those that are no clock nets
  without_clocks : (nets : List Net) → ((net : Net) → In net nets → IsNet design net) → WithoutClocks design nets (filter (is_seen design flat) nets)
  without_clocks [] all = WithoutClocks.none
  without_clocks (net ∷ nets) all = by (is_clock_class flat (class_of_net design net)) refl (without_clocks nets (λ n i. all n (inr i)))
    where
      by : (b : Bool) → is_clock_class flat (class_of_net design net) ≡ b → WithoutClocks design nets (filter (is_seen design flat) nets) → WithoutClocks design (net ∷ nets) (filter (is_seen design flat) (net ∷ nets))
      by true e rest = subst (λ v. WithoutClocks design (net ∷ nets) (cond (not v) (net ∷ filter (is_seen design flat) nets) (filter (is_seen design flat) nets))) (sym e) (WithoutClocks.left_out (unseen net (all net (inl refl)) e) rest)
      by false e rest = subst (λ v. WithoutClocks design (net ∷ nets) (cond (not v) (net ∷ filter (is_seen design flat) nets) (filter (is_seen design flat) nets))) (sym e) (WithoutClocks.kept (seen net (all net (inl refl)) e) rest)

  pub are_seen : AreSeenNets design (seen_nets design flat)
  are_seen = without_clocks (nets_in_order design) (net_is design)

-- the flat netlist has them
filtered : (design : Design) (flat : Flat) (nets : List Net) → filter (λ (net : FlatNet). not (is_clock_class flat net.class)) (map (flat_net design) nets) ≡ map (flat_net design) (filter (is_seen design flat) nets)
filtered design flat [] = refl
filtered design flat (net ∷ nets) = one (is_seen design flat net) _ (filtered design flat nets)
  where
    one : (b : Bool) (rest : List FlatNet) → rest ≡ map (flat_net design) (filter (is_seen design flat) nets)
        → cond b (flat_net design net ∷ rest) rest ≡ map (flat_net design) (cond b (net ∷ filter (is_seen design flat) nets) (filter (is_seen design flat) nets))
    one true rest e = ap (λ l. flat_net design net ∷ l) e
    one false rest e = e

pub seen_are_flat : (design : Design) (flat : Flat) → IsFlatOf design flat → listed_nets flat ≡ map (flat_net design) (seen_nets design flat)
seen_are_flat design flat h =
    ap (λ listed. cond listed (nets_but_clocks flat) []) h.listed
    ∙ ap (filter (λ (net : FlatNet). not (is_clock_class flat net.class))) h.nets ∙ filtered design flat (nets_in_order design)

-- with their names and paths
pub seen_are_named : (design : Design) (flat : Flat) → IsFlatOf design flat → named_paths (listed_nets flat) ≡ map (λ (net : Net). name_and_path net.place net.name) (seen_nets design flat)
seen_are_named design flat h = ap named_paths (seen_are_flat design flat h) ∙ map-map (λ (net : FlatNet). name_and_path net.place net.name) (flat_net design) (seen_nets design flat)

kept_in : {X : Type 0} (p : X → Bool) (xs : List X) (x : X) → In x (filter p xs) → In x xs × (p x ≡ true)
kept_in p [] x i = absurd i
kept_in {X} p (first ∷ xs) x i = by (p first) refl (λ j. kept_in p xs x j) i
  where
    by : (b : Bool) → p first ≡ b → (In x (filter p xs) → In x xs × (p x ≡ true)) → In x (cond b (first ∷ filter p xs) (filter p xs)) → In x (first ∷ xs) × (p x ≡ true)
    by true e rest (inl same) = (inl same, ap p same ∙ e)
    by true e rest (inr j) = let (k, passes) = rest j in (inr k, passes)
    by false e rest j = let (k, passes) = rest j in (inr k, passes)

-- and their bits
pub seen_has_bit : (design : Design) (flat : Flat) → AreFaultless design.models → HasNoClockFault design → IsFlatOf design flat → (inputs : List Bool) (state : LatchState) (bits : Valuation) → IsValuation design inputs state bits
    → (number : ℕ) (net : Net) → slice_get (seen_nets design flat) number ≡ Some net → class_bits design bits (class_of_net design net) ≡ bits net.place net.name
seen_has_bit design flat faultless clean h inputs state bits v number net e =
    let (listed, passes) = kept_in (is_seen design flat) (nets_in_order design) net (in_got (seen_nets design flat) number net e) in
    let n = net_is design net listed in
    ap (class_bits design bits) (sym (class_is design flat faultless h net n))
    ∙ same_bit design flat faultless h inputs state bits v net n (seen design flat faultless clean h net n (not-true (is_clock_class flat (class_of_net design net)) passes))
