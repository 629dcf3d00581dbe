-- The classes of the nets at a place, pin by pin of the line that leads to it.
use Rattle.std.proofs.Common.{ℕ, ◌≡◌, ◌≢◌, ◌<◌, ◌≤◌, ◌+◌, ◌⊎◌, inl, inr, List, [], ◌∷◌, ◌++◌, Some, slice_get, get_or, length, take, set, map, flat_map, option_map, refl, sym, ap, ap₂, ◌∙◌, subst, arith, length-set}
use denote.Ref.{Bor}
use Rattle.std.proofs.lemmas.List.{length-map}
use Rattle.std.proofs.lemmas.List.FromFn.{length-map-range_with_len, get_or-map-range_with_len}
use Rattle.std.proofs.lemmas.Option.{slice_get-map, slice_get-get_or, slice_get_within, slice_get_read, same_Some}
use Rattle.std.proofs.lemmas.Bool.{cases_eq}
use Rattle.netlist_core.specs.declared.flat.NetId.{NetId}
use Rattle.netlist_core.specs.declared.flat.Net.{Net as FlatNet}
use Rattle.netlist_core.specs.declared.model.Design.{Design}
use Rattle.netlist_core.specs.declared.model.Model.{Model}
use Rattle.netlist_core.specs.declared.model.Pin.{Pin}
use Rattle.netlist_core.specs.declared.model.Subckt.{Subckt}
use Rattle.netlist_core.specs.Names.{Name, model_named}
use Rattle.netlist_meaning.specs.Places.{Place, model_placed, model_below, model_at}
use Rattle.netlist_meaning.specs.Nets.{Net, net_at, IsNet, IsPinned, by_pin, reversed}
use Rattle.netlist_meaning.specs.Roots.{root}
use Rattle.netlist_meaning.specs.InOrder.{places_in_order, names_in_order, nets_at, nets_in_order}
use Rattle.netlist_meaning.specs.FlatOf.{position_of, id_of, class_of_net, flat_net}
use Rattle.netlist_meaning.proofs.Names.{and_then-from}
use Rattle.netlist_meaning.proofs.Depth.{model_at-append}
use Rattle.netlist_rules.specs.ModelFaults.{AreFaultless}
use Rattle.lists.proofs.Members.{In, in_from, in_map, in_mapped, contains_from, in_got, got_from}
use Rattle.flat_designs.proofs.Faultless.{formals_named}
use Rattle.lists.proofs.Ends.{snoc_same}
use Rattle.flat_designs.proofs.Lists.{in_some_map}
use Rattle.flat_designs.proofs.Classes.{net_joined}
use Rattle.flat_designs.proofs.ByPins.{roots_are_by_pins}
use Rattle.netlist_flatten.specs.Numbered.{place_at, nets_before}
use Rattle.netlist_flatten.specs.Joins.{IsLineTo, own_numbers}
use Rattle.lists.proofs.Cuts.{got_left, got_right, got_taken, take_taken, flat_cut, got_set_same, got_set_other, same_items}
use Rattle.lists.proofs.Numbers.{less_or_last}
use Rattle.netlist_flatten.proofs.Numbering.{got_place, net_there_at, position_is, nets_by_names, name_there}

-- the nets at a place stand there
pub net_here : (design : Design) (k j : ℕ) (net : Net) → slice_get (nets_at design (place_at design k)) j ≡ Some net → net.place ≡ place_at design k
net_here design k j net e = let (name, i, same) = in_mapped (net_at (place_at design k)) _ net (in_got (nets_at design (place_at design k)) j net e) in ap (λ (n : Net). n.place) same

-- a name stands at one position
pub one_position : (design : Design) (k i j : ℕ) (net : Net) → k < length (places_in_order design) → slice_get (nets_at design (place_at design k)) i ≡ Some net → slice_get (nets_at design (place_at design k)) j ≡ Some net → i ≡ j
one_position design k i j net l e f =
    let a : position_of (nets_in_order design) net ≡ length (nets_before design k) + i = position_is design k i net l e in
    let b : position_of (nets_in_order design) net ≡ length (nets_before design k) + j = position_is design k j net l f in
    omega arith

-- no pin so far names the name
abbrev pub IsUnnamedBefore : List Pin → ℕ → Name → Type 0
IsUnnamedBefore pins count name = (p : ℕ) (pin : Pin) → p < count → slice_get pins p ≡ Some pin → pin.formal ≢ name

-- the class at a position is known, or it is its own and no pin so far names it
abbrev pub IsJoinedAt : Design → ℕ → List Pin → ℕ → List ℕ → ℕ → Name → Type 0
IsJoinedAt design k pins count own j name =
    (slice_get own j ≡ Some (class_of_net design (net_at (place_at design k) name)))
    ⊎ ((slice_get own j ≡ Some (length (nets_before design k) + j)) × IsUnnamedBefore pins count name)

pub record JoinedBefore (design : Design) (k : ℕ) (pins : List Pin) (count : ℕ) (own : List ℕ) : Type 0 where
  pub many : length own ≡ length (nets_at design (place_at design k))
  pub joined : (j : ℕ) (name : Name) → slice_get (nets_at design (place_at design k)) j ≡ Some (net_at (place_at design k) name) → IsJoinedAt design k pins count own j name

-- the number of the net at a position
pub own_number : (design : Design) (k j : ℕ) → j < length (nets_at design (place_at design k)) → slice_get (own_numbers design k) j ≡ Some (length (nets_before design k) + j)
own_number design k j l =
    slice_get-get_or (own_numbers design k) j 0 (subst (λ n. j < n) (sym (length-map-range_with_len (λ j. length (nets_before design k) + j) 0 (length (nets_at design (place_at design k))))) l)
    ∙ ap Some (get_or-map-range_with_len (λ j. length (nets_before design k) + j) 0 (length (nets_at design (place_at design k))) j j 0 l (omega arith))

pub joined_start : (design : Design) (k : ℕ) (pins : List Pin) (own : List ℕ) → own ≡ own_numbers design k → JoinedBefore design k pins 0 own
joined_start design k pins own e = record {
  many = ap length e ∙ length-map-range_with_len (λ j. length (nets_before design k) + j) 0 (length (nets_at design (place_at design k)));
  joined = λ j name here. inr (ap (λ (xs : List ℕ). slice_get xs j) e ∙ own_number design k j (slice_get_within _ j _ here), λ p pin l is. absurd (omega arith));
}

-- the line's pins join
pub is_pinned : (design : Design) (outer inner : ℕ) (line : Subckt) → IsLineTo design outer inner line → (pin : Pin) → In pin line.pins → IsPinned design (net_at (place_at design outer) pin.actual) (net_at (place_at design inner) pin.formal)
is_pinned design outer inner line h pin i = record { model = h.model; line = line; pin = pin; number = h.number; has_model = h.has_model; has_line = h.has_line; has_pin = contains_from line.pins pin i; is_actual = refl; is_deeper = h.is_deeper; is_formal = refl }

pub joined_next : (design : Design) (outer inner : ℕ) (line : Subckt) (count formal class : ℕ) (pin : Pin) (own : List ℕ) → AreFaultless design.models → inner < length (places_in_order design) → IsLineTo design outer inner line → slice_get line.pins count ≡ Some pin
    → slice_get (nets_at design (place_at design inner)) formal ≡ Some (net_at (place_at design inner) pin.formal) → class ≡ class_of_net design (net_at (place_at design outer) pin.actual) → JoinedBefore design inner line.pins count own
    → JoinedBefore design inner line.pins (count + 1) (set own formal class)
joined_next design outer inner line count formal class pin own faultless l to is_pin is_formal is_class before = record { many = length-set own formal class ∙ before.many; joined = λ j name here. by j name here (cases_eq j formal) }
  where
    there : formal < length own
    there = let w : formal < length (nets_at design (place_at design inner)) = slice_get_within _ formal _ is_formal in let m : length own ≡ length (nets_at design (place_at design inner)) = before.many in omega arith

    is_root : class ≡ class_of_net design (net_at (place_at design inner) pin.formal)
    is_root = is_class ∙ ap (position_of (nets_in_order design)) (sym ((roots_are_by_pins design faultless).pinned _ _ (is_pinned design outer inner line to pin (in_got line.pins count pin is_pin))))

    later_by : (name : Name) (p : ℕ) (other : Pin) → pin.formal ≢ name → IsUnnamedBefore line.pins count name → (p < count) ⊎ (p ≡ count) → slice_get line.pins p ≡ Some other → other.formal ≢ name
    later_by name p other differ rest (inl m) is = rest p other m is
    later_by name p other differ rest (inr same) is = λ e. differ (ap (λ (q : Pin). q.formal) (same_Some _ _ (sym is_pin ∙ ap (slice_get line.pins) (sym same) ∙ is)) ∙ e)

    other_by : (j : ℕ) (name : Name) → slice_get (nets_at design (place_at design inner)) j ≡ Some (net_at (place_at design inner) name) → j ≢ formal → IsJoinedAt design inner line.pins count own j name → IsJoinedAt design inner line.pins (count + 1) (set own formal class) j name
    other_by j name here differ (inl known) = inl (got_set_other own formal j class differ ∙ known)
    other_by j name here differ (inr (itself, rest)) = inr (
      got_set_other own formal j class differ ∙ itself,
      λ p other b is. later_by name p other (λ e. differ (one_position design inner j formal (net_at (place_at design inner) name) l here (is_formal ∙ ap (λ n. Some (net_at (place_at design inner) n)) e))) rest (less_or_last p count b) is,
    )

    by : (j : ℕ) (name : Name) → slice_get (nets_at design (place_at design inner)) j ≡ Some (net_at (place_at design inner) name) → (j ≡ formal) ⊎ (j ≢ formal) → IsJoinedAt design inner line.pins (count + 1) (set own formal class) j name
    by j name here (inl same) =
        let net : net_at (place_at design inner) pin.formal ≡ net_at (place_at design inner) name = same_Some _ _ (sym is_formal ∙ ap (slice_get (nets_at design (place_at design inner))) (sym same) ∙ here) in
        inl (ap (slice_get (set own formal class)) same ∙ got_set_same own formal class there ∙ ap Some (is_root ∙ ap (class_of_net design) net))
    by j name here (inr differ) = other_by j name here differ (before.joined j name here)

-- no pin names the name
abbrev IsUnnamed : List Pin → Name → Type 0
IsUnnamed pins name = (p : ℕ) (pin : Pin) → slice_get pins p ≡ Some pin → pin.formal ≢ name

-- where no pin of the line names a name, none joins its net from outside
free_net : (design : Design) (outer inner : ℕ) (line : Subckt) (name : Name) → IsLineTo design outer inner line → IsUnnamed line.pins name → (net : Net) → ¬ IsPinned design net (net_at (place_at design inner) name)
free_net design outer inner line name to free net h =
    let (place, number) = snoc_same (place_at design outer) net.place to.number h.number (sym to.is_deeper ∙ h.is_deeper) in
    let model : to.model ≡ h.model = same_Some _ _ (sym to.has_model ∙ ap (model_at design) place ∙ h.has_model) in
    let is_line : line ≡ h.line = same_Some _ _ (sym to.has_line ∙ ap₂ (λ (m : Model) (n : ℕ). slice_get m.subckts n) model number ∙ h.has_line) in
    let (p, is_p) = got_from line.pins h.pin (subst (λ (s : Subckt). In h.pin s.pins) (sym is_line) (in_from h.line.pins h.pin h.has_pin)) in
    free p h.pin is_p (sym h.is_formal)

pub free_root : (design : Design) (outer inner : ℕ) (line : Subckt) (name : Name) → AreFaultless design.models → IsLineTo design outer inner line → IsUnnamed line.pins name → root design (net_at (place_at design inner) name) ≡ net_at (place_at design inner) name
free_root design outer inner line name faultless to free =
    let Rooted : Place → Type 0 = λ p. ((net : Net) → ¬ IsPinned design net (net_at p name)) → root design (net_at p name) ≡ net_at p name in
    let here : Rooted (place_at design inner) = subst Rooted (sym to.is_deeper) ((roots_are_by_pins design faultless).unpinned (place_at design outer) to.number name) in
    here (free_net design outer inner line name to free)

-- once all pins are read each class is known
pub joined_all : (design : Design) (k : ℕ) (pins : List Pin) (count : ℕ) (own : List ℕ) → k < length (places_in_order design) → length pins ≤ count → JoinedBefore design k pins count own
    → ((name : Name) → IsUnnamed pins name → root design (net_at (place_at design k) name) ≡ net_at (place_at design k) name) → own ≡ map (class_of_net design) (nets_at design (place_at design k))
joined_all design k pins count own l all before itself = same_items own (map (class_of_net design) (nets_at design (place_at design k))) (before.many ∙ sym (length-map (nets_at design (place_at design k)) (class_of_net design))) has
  where
    by : (j : ℕ) (name : Name) → slice_get (nets_at design (place_at design k)) j ≡ Some (net_at (place_at design k) name) → IsJoinedAt design k pins count own j name → slice_get own j ≡ Some (class_of_net design (net_at (place_at design k) name))
    by j name here (inl known) = known
    by j name here (inr (number, free)) =
        number
        ∙ ap Some (sym (ap (position_of (nets_in_order design)) (itself name (λ p pin is. free p pin (let w : p < length pins = slice_get_within pins p pin is in omega arith) is)) ∙ position_is design k j (net_at (place_at design k) name) l here))

    has : (j : ℕ) (y : ℕ) → slice_get (map (class_of_net design) (nets_at design (place_at design k))) j ≡ Some y → slice_get own j ≡ Some y
    has j y e =
        let (net, is_net, is_y) = in_some_map (class_of_net design) (slice_get (nets_at design (place_at design k)) j) y (sym (slice_get-map (class_of_net design) (nets_at design (place_at design k)) j) ∙ e) in
        let same : net ≡ net_at (place_at design k) net.name = ap (λ p. net_at p net.name) (net_here design k j net is_net) in
        by j net.name (is_net ∙ ap Some same) (before.joined j net.name (is_net ∙ ap Some same)) ∙ ap Some (ap (class_of_net design) (sym same) ∙ is_y)

-- the nets of the main model are their own
pub main_all : (design : Design) (k : ℕ) (own : List ℕ) → AreFaultless design.models → k < length (places_in_order design) → place_at design k ≡ [] → own ≡ own_numbers design k → own ≡ map (class_of_net design) (nets_at design (place_at design k))
main_all design k own faultless l main e =
    joined_all design k [] 0 own l (omega arith) (joined_start design k [] own e)
    (λ name free. subst (λ (p : Place). root design (net_at p name) ≡ net_at p name) (sym main) ((roots_are_by_pins design faultless).main name))

-- the class of a net at an earlier place, among those that are known
pub class_settled : (design : Design) (outer inner : ℕ) (net : Net) (settled : List ℕ) → outer < inner → inner < length (places_in_order design) → settled ≡ map (class_of_net design) (nets_before design inner) → In net (nets_at design (place_at design outer))
    → slice_get settled (position_of (nets_in_order design) net) ≡ Some (class_of_net design net)
class_settled design outer inner net settled earlier l e i =
    let (j, here) = got_from (nets_at design (place_at design outer)) net i in
    let up : outer < length (places_in_order design) = omega arith in
    let is_place : slice_get (take inner (places_in_order design)) outer ≡ Some (place_at design outer) = got_taken (places_in_order design) inner outer (place_at design outer) earlier (got_place design outer up) in
    let (rest, cut) = flat_cut (nets_at design) (take inner (places_in_order design)) outer (place_at design outer) is_place in
    let front : flat_map (nets_at design) (take outer (take inner (places_in_order design))) ≡ nets_before design outer = ap (flat_map (nets_at design)) (take_taken (places_in_order design) outer inner earlier) in
    let there : slice_get (nets_before design inner) (length (nets_before design outer) + j) ≡ Some net =
    ap (λ (xs : List Net). slice_get xs (length (nets_before design outer) + j)) (cut ∙ ap (λ (xs : List Net). xs ++ (nets_at design (place_at design outer) ++ rest)) front)
    ∙ got_right (nets_before design outer) (nets_at design (place_at design outer) ++ rest) j
    ∙ got_left (nets_at design (place_at design outer)) rest j net here in
    ap (λ (xs : List ℕ). slice_get xs (position_of (nets_in_order design) net)) e
    ∙ slice_get-map (class_of_net design) (nets_before design inner) (position_of (nets_in_order design) net)
    ∙ ap (λ n. option_map (class_of_net design) (slice_get (nets_before design inner) n)) (position_is design outer j net up here)
    ∙ ap (option_map (class_of_net design)) there

-- the line that the parent names
pub line_to : (design : Design) (outer inner number : ℕ) (model m : Model) → model_at design (place_at design inner) ≡ Some m → place_at design inner ≡ place_at design outer ++ number ∷ [] → model_at design (place_at design outer) ≡ Some model
    → (line : Subckt) × (slice_get model.subckts number ≡ Some line)
line_to design outer inner number model m is_m deeper is_model =
    let (o, is_o, rest) = and_then-from (model_below design (number ∷ [])) (model_at design (place_at design outer)) m (sym (model_at-append design (place_at design outer) (number ∷ [])) ∙ ap (model_at design) (sym deeper) ∙ is_m) in
    let (n, is_n, same) = and_then-from (model_below design []) (model_placed design o number) m rest in
    let (line, is_line, found) = and_then-from (λ (s : Subckt). model_named design.models s.model) (slice_get o.subckts number) n is_n in
    (line, ap (λ (v : Model). slice_get v.subckts number) (same_Some _ _ (sym is_model ∙ is_o)) ∙ is_line)

-- a net at a place is among the nets there
pub net_in : (design : Design) (k : ℕ) (name : Name) → IsNet design (net_at (place_at design k) name) → In (net_at (place_at design k) name) (nets_at design (place_at design k))
net_in design k name (m, is_m, c) =
    subst (λ (xs : List Net). In (net_at (place_at design k) name) xs) (sym (nets_by_names design (place_at design k) m is_m))
    (in_map (net_at (place_at design k)) (names_in_order m) name (name_there design (place_at design k) name m is_m (m, is_m, c)))

-- both ends of a pin are nets
pub formal_net : (design : Design) (outer inner : Net) → AreFaultless design.models → IsPinned design outer inner → IsNet design inner
formal_net design outer inner faultless h = formals_named design faultless outer inner h

pub actual_net : (design : Design) (outer inner : Net) → AreFaultless design.models → IsPinned design outer inner → IsNet design outer
actual_net design outer inner faultless h = net_joined design faultless inner outer (reversed (by_pin h)) (formals_named design faultless outer inner h)

-- the pin that a loop over the pins has come to
pub pin_at : (items pins : List Pin) (i : ℕ) (pin : Pin) → items ≡ pins → i < length items → pin ≡ get_or items i pin → slice_get pins i ≡ Some pin
pin_at items pins i pin same l e = ap (λ (xs : List Pin). slice_get xs i) (sym same) ∙ slice_get_read items (length items) i pin refl l e

-- its formal and its actual, and what is known of the actual's class
pub formal_there : (design : Design) (outer inner i : ℕ) (line : Subckt) (pin : Pin) (name : Name) → AreFaultless design.models → IsLineTo design outer inner line → slice_get line.pins i ≡ Some pin → name ≡ pin.formal → IsNet design (net_at (place_at design inner) name)
formal_there design outer inner i line pin name faultless to e same =
    subst (λ (n : Name). IsNet design (net_at (place_at design inner) n)) (sym same) (formal_net design _ _ faultless (is_pinned design outer inner line to pin (in_got line.pins i pin e)))

pub actual_there : (design : Design) (outer inner i : ℕ) (line : Subckt) (pin : Pin) (name : Name) → AreFaultless design.models → IsLineTo design outer inner line → slice_get line.pins i ≡ Some pin → name ≡ pin.actual → IsNet design (net_at (place_at design outer) name)
actual_there design outer inner i line pin name faultless to e same =
    subst (λ (n : Name). IsNet design (net_at (place_at design outer) n)) (sym same) (actual_net design _ _ faultless (is_pinned design outer inner line to pin (in_got line.pins i pin e)))

pub actual_class : (design : Design) (outer inner i : ℕ) (line : Subckt) (pin : Pin) (name : Name) (id : NetId) (settled : List ℕ) → AreFaultless design.models → IsLineTo design outer inner line → slice_get line.pins i ≡ Some pin → name ≡ pin.actual
    → outer < inner → inner < length (places_in_order design) → settled ≡ map (class_of_net design) (nets_before design inner) → id ≡ id_of design (place_at design outer) name
    → slice_get settled id.0 ≡ Some (class_of_net design (net_at (place_at design outer) pin.actual))
actual_class design outer inner i line pin name id settled faultless to e same earlier l known is_id =
    let net : IsNet design (net_at (place_at design outer) pin.actual) = actual_net design _ _ faultless (is_pinned design outer inner line to pin (in_got line.pins i pin e)) in
    ap (λ (n : NetId). slice_get settled n.0) is_id
    ∙ ap (λ (n : Name). slice_get settled (position_of (nets_in_order design) (net_at (place_at design outer) n))) same
    ∙ class_settled design outer inner (net_at (place_at design outer) pin.actual) settled earlier l known (net_in design outer pin.actual net)

-- the net of an item of the names at a place, by its number
pub net_of_item : (design : Design) (k i : ℕ) (items : List (Bor Name)) (d : Bor Name) → nets_at design (place_at design k) ≡ map (λ (name : Bor Name). net_at (place_at design k) name.now) items → i < length items
    → slice_get (nets_at design (place_at design k)) i ≡ Some (net_at (place_at design k) (get_or items i d).now)
net_of_item design k i items d same l =
    ap (λ (xs : List Net). slice_get xs i) same ∙ slice_get-map (λ (name : Bor Name). net_at (place_at design k) name.now) items i
    ∙ ap (option_map (λ (name : Bor Name). net_at (place_at design k) name.now)) (slice_get-get_or items i d l)

pub class_of_item : (design : Design) (k i number : ℕ) (net : Net) (classes : List ℕ) → k < length (places_in_order design) → slice_get (nets_at design (place_at design k)) i ≡ Some net → number ≡ length (nets_before design k) + i
    → classes ≡ map (class_of_net design) (nets_in_order design) → slice_get classes number ≡ Some (class_of_net design net)
class_of_item design k i number net classes l here is_number known =
    ap (λ (xs : List ℕ). slice_get xs number) known ∙ slice_get-map (class_of_net design) (nets_in_order design) number
    ∙ ap (option_map (class_of_net design)) (ap (slice_get (nets_in_order design)) is_number ∙ net_there_at design k i net l here)

pub net_is : (design : Design) (k : ℕ) (place : Place) (name : Name) (class : ℕ) (net : FlatNet) → net ≡ record { place = place; name = name; class = class } → place ≡ place_at design k → class ≡ class_of_net design (net_at (place_at design k) name)
    → net ≡ flat_net design (net_at (place_at design k) name)
net_is design k place name class net e is_place is_class = e ∙ ap₂ (λ (p : Place) (n : ℕ). let net : FlatNet = record { place = p; name = name; class = n } in net) is_place is_class
