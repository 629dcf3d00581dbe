-- Nets are of one class exactly where they are joined, and a class's first net is its root.
use Rattle.std.proofs.Common.{ℕ, ◌≡◌, ◌≢◌, ◌<◌, ◌≤◌, ◌⊎◌, inl, inr, List, [], ◌∷◌, Bool, true, false, Option, Some, None, slice_get, get_or, map, flat_map, length, option_and_then, option_map, unwrap_or, refl, sym, ap, ap₂, ◌∙◌, subst, arith, true≢false}
use Rattle.std.proofs.lemmas.Slice.Eq.{bytes_eq-Decides}
use Rattle.std.proofs.lemmas.Option.{slice_get-map, slice_get-get_or, slice_get_within, get_or_from_slice_get, same_Some}
use Rattle.netlist_core.specs.declared.model.Design.{Design}
use Rattle.netlist_core.specs.declared.model.Model.{Model}
use Rattle.netlist_core.specs.declared.model.Pin.{Pin}
use Rattle.netlist_core.specs.declared.model.Subckt.{Subckt}
use Rattle.netlist_core.specs.Names.{Name}
use Rattle.netlist_meaning.specs.Places.{Place, main_model, model_placed, IsBefore}
use Rattle.netlist_meaning.specs.Nets.{Net, net_at, model_names, IsNet, IsPinned, Joined, itself}
use Rattle.netlist_meaning.specs.Roots.{pin_named, actual_or_formal, out_of_line, root_below, root}
use Rattle.std.proofs.lemmas.Bool.{and_parts, and_from, cases_lt}
use Rattle.netlist_meaning.proofs.Joined.{joined_gives}
use Rattle.netlist_meaning.proofs.Roots.{joined_is_same_root, roots_are_nearest}
use Rattle.netlist_meaning.proofs.PlaceOrder.{places_are_ordered}
use Rattle.netlist_rules.specs.ModelFaults.{AreFaultless}
use Rattle.lists.proofs.Members.{In, in_right, in_map, in_flat, in_from, contains_from, in_got}
use Rattle.flat_designs.proofs.Faultless.{not_recursive, formals_once, formals_named}
use Rattle.netlist_core.specs.declared.flat.Flat.{Flat}
use Rattle.netlist_meaning.specs.Flat.{class_of, no_net}
use Rattle.netlist_meaning.specs.FlatOrder.{IsFirstOfClass}
use Rattle.netlist_meaning.specs.InOrder.{nets_in_order}
use Rattle.netlist_meaning.specs.FlatOf.{is_same_net, zero_or_next, position_of, id_of, class_of_net, flat_net, IsFlatOf}
use Rattle.netlist_core.specs.declared.flat.Net.{Net as FlatNet}
use Rattle.flat_designs.specs.Laws.{ClassesAreJoined, FirstsAreRoots}
use Rattle.flat_designs.proofs.Lists.{pair_at, one_place}
use Rattle.flat_designs.proofs.Listed.{net_is, net_listed, nets_ascend, nets_once, IsEarlierNet}

pub same_net : (a b : Net) → is_same_net a b ≡ true → a ≡ b
same_net a b e = let (p, n) = and_parts _ _ e in ap (λ place. net_at place a.name) ((bytes_eq-Decides a.place b.place).0 p) ∙ ap (net_at b.place) ((bytes_eq-Decides a.name b.name).0 n)

pub is_same : (a b : Net) → a ≡ b → is_same_net a b ≡ true
is_same a b e = and_from _ _ ((bytes_eq-Decides a.place b.place).1 (ap (λ (x : Net). x.place) e)) ((bytes_eq-Decides a.name b.name).1 (ap (λ (x : Net). x.name) e))

-- a net stands at its position
pub position_at : (nets : List Net) (net : Net) → In net nets → slice_get nets (position_of nets net) ≡ Some net
position_at [] net i = absurd i
position_at (first ∷ nets) net i = by (is_same_net first net) refl i (position_at nets net)
  where
    by : (b : Bool) → is_same_net first net ≡ b → In net (first ∷ nets) → (In net nets → slice_get nets (position_of nets net) ≡ Some net) → slice_get (first ∷ nets) (zero_or_next b (position_of nets net)) ≡ Some net
    by true h i rest = ap Some (same_net first net h)
    by false h (inl e) rest = absurd (true≢false (sym (is_same first net (sym e)) ∙ h))
    by false h (inr j) rest = rest j

-- a net that is joined to one of the design is one
pin_outer : (design : Design) (outer inner : Net) → IsPinned design outer inner → IsNet design outer
pin_outer design outer inner h = (
  h.model,
  h.has_model,
  contains_from (model_names h.model) outer.name (subst (λ v. In v (model_names h.model)) (sym h.is_actual)
      (in_right _ (flat_map (λ (l : Subckt). map (λ (q : Pin). q.actual) l.pins) h.model.subckts) h.pin.actual
      (in_flat (λ (l : Subckt). map (λ (q : Pin). q.actual) l.pins) h.model.subckts h.line h.pin.actual (in_got h.model.subckts h.number h.line h.has_line) (in_map (λ (q : Pin). q.actual) h.line.pins h.pin (in_from h.line.pins h.pin h.has_pin))))),
)

abbrev BothNets : Design → Net → Net → Type 0
BothNets design a b = (IsNet design a → IsNet design b) × (IsNet design b → IsNet design a)

pub net_joined : (design : Design) → AreFaultless design.models → (a b : Net) → Joined design a b → IsNet design a → IsNet design b
net_joined design faultless a b h = (joined_gives design (BothNets design) (λ x. ((λ n. n), (λ n. n))) (λ x y r. (r.1, r.0)) (λ x y z r s. ((λ n. s.0 (r.0 n)), (λ n. r.1 (s.1 n)))) pinned h).0
  where
    pinned : (outer inner : Net) → IsPinned design outer inner → BothNets design outer inner
    pinned outer inner h = ((λ n. formals_named design faultless outer inner h), (λ n. pin_outer design outer inner h))

pub root_joined : (design : Design) → AreFaultless design.models → (net : Net) → Joined design net (root design net)
root_joined design faultless net = (roots_are_nearest design (formals_once design faultless)).joined net

pub root_is_net : (design : Design) → AreFaultless design.models → (net : Net) → IsNet design net → IsNet design (root design net)
root_is_net design faultless net n = net_joined design faultless net (root design net) (root_joined design faultless net) n

pub net_there : (design : Design) → AreFaultless design.models → (net : Net) → IsNet design net → slice_get (nets_in_order design) (position_of (nets_in_order design) net) ≡ Some net
net_there design faultless net n = position_at (nets_in_order design) net (net_listed design (not_recursive design faultless) net n)

-- nets of one position are one
pub one_position : (design : Design) → AreFaultless design.models → (a b : Net) → IsNet design a → IsNet design b → position_of (nets_in_order design) a ≡ position_of (nets_in_order design) b → a ≡ b
one_position design faultless a b n m e = same_Some _ _ (sym (net_there design faultless a n) ∙ ap (slice_get (nets_in_order design)) e ∙ net_there design faultless b m)

-- the flat net at a position
pub flat_net_at : (design : Design) (flat : Flat) → IsFlatOf design flat → (k : ℕ) (net : Net) → slice_get (nets_in_order design) k ≡ Some net → get_or flat.nets k no_net ≡ flat_net design net
flat_net_at design flat h k net e =
    get_or_from_slice_get flat.nets k (flat_net design net) no_net
    (ap (λ (xs : List FlatNet). slice_get xs k) h.nets ∙ slice_get-map (flat_net design) (nets_in_order design) k ∙ ap (option_map (flat_net design)) e)

pub class_is : (design : Design) (flat : Flat) → AreFaultless design.models → IsFlatOf design flat → (net : Net) → IsNet design net → class_of flat (id_of design net.place net.name) ≡ class_of_net design net
class_is design flat faultless h net n = ap (λ (x : FlatNet). x.class) (flat_net_at design flat h (position_of (nets_in_order design) net) net (net_there design faultless net n))

pub class_joined : (design : Design) → AreFaultless design.models → (a b : Net) → IsNet design a → IsNet design b → class_of_net design a ≡ class_of_net design b → Joined design a b
class_joined design faultless a b n m e =
    (joined_is_same_root design (formals_once design faultless) a b).1
    (one_position design faultless (root design a) (root design b) (root_is_net design faultless a n) (root_is_net design faultless b m) e)

pub joined_class : (design : Design) → AreFaultless design.models → (a b : Net) → Joined design a b → class_of_net design a ≡ class_of_net design b
joined_class design faultless a b j = ap (position_of (nets_in_order design)) ((joined_is_same_root design (formals_once design faultless) a b).0 j)

pub classes_are_joined : ClassesAreJoined
classes_are_joined design flat faultless h = record {
  is_there = net_there design faultless;
  is_class = class_is design flat faultless h;
  joined = λ a b n m. (
    (λ e. class_joined design faultless a b n m (sym (class_is design flat faultless h a n) ∙ e ∙ class_is design flat faultless h b m)),
    (λ j. class_is design flat faultless h a n ∙ joined_class design faultless a b j ∙ sym (class_is design flat faultless h b m)),
  );
}

-- the root of a net stands at its place, or at one around it
IsAround : Place → Place → Type 0
IsAround [] q = Unit {0}
IsAround (m ∷ p) [] = ⊥
IsAround (m ∷ p) (n ∷ q) = (m ≡ n) × IsAround p q

around_itself : (p : Place) → IsAround p p
unfolding IsAround
around_itself [] = tt
around_itself (m ∷ p) = (refl, around_itself p)

out_around : (line : Option Subckt) (number : ℕ) (inner : Place) (name : Name) (place : Place) → IsAround inner place → IsAround (out_of_line line number inner name).place (number ∷ place)
unfolding IsAround
out_around line number [] name place h = by (option_and_then (pin_named name) line)
  where
    by : (o : Option Pin) → IsAround (actual_or_formal number name o).place (number ∷ place)
    by None = (refl, tt)
    by (Some pin) = tt
out_around line number (first ∷ inner) name place h = (refl, h)

root_below_around : (design : Design) (place : Place) (name : Name) (model : Model) → IsAround (root_below design place name model).place place
unfolding IsAround
root_below_around design [] name model = tt
root_below_around design (number ∷ place) name model = by (model_placed design model number) (λ m. root_below_around design place name m)
  where
    by : (o : Option Model) → ((m : Model) → IsAround (root_below design place name m).place place)
        → IsAround (let inner : Net = unwrap_or (option_map (root_below design place name) o) (net_at place name) in out_of_line (slice_get model.subckts number) number inner.place inner.name).place (number ∷ place)
    by None rest = out_around (slice_get model.subckts number) number place name place (around_itself place)
    by (Some m) rest = out_around (slice_get model.subckts number) number (root_below design place name m).place (root_below design place name m).name place (rest m)

root_around : (design : Design) (net : Net) → IsAround (root design net).place net.place
root_around design net = by (main_model design)
  where
    by : (o : Option Model) → IsAround (unwrap_or (option_map (root_below design net.place net.name) o) net).place net.place
    by None = around_itself net.place
    by (Some m) = root_below_around design net.place net.name m

around_before : (p q : Place) → IsAround p q → IsBefore p q ⊎ (p ≡ q)
unfolding IsAround
around_before [] [] h = inr refl
around_before [] (n ∷ q) h = inl tt
around_before (m ∷ p) [] h = absurd h
around_before (m ∷ p) (n ∷ q) h = elim (around_before p q h.1) as (λ _. IsBefore (m ∷ p) (n ∷ q) ⊎ (m ∷ p ≡ n ∷ q)) [
  | inl b ↦ inl (inr (h.0, b))
  | inr e ↦ inr (ap₂ (λ k r. k ∷ r) h.0 e)
]

-- so it comes first
pub root_first : (design : Design) → AreFaultless design.models → (net : Net) → IsNet design net → position_of (nets_in_order design) (root design net) ≤ position_of (nets_in_order design) net
root_first design faultless net n = elim ((roots_are_nearest design (formals_once design faultless)).nearest net net itself) as (λ _. position_of (nets_in_order design) (root design net) ≤ position_of (nets_in_order design) net) [
  | inl same ↦ (let e : position_of (nets_in_order design) net ≡ position_of (nets_in_order design) (root design net) = ap (position_of (nets_in_order design)) same in omega arith)
  | inr less ↦ elim (around_before (root design net).place net.place (root_around design net)) as (λ _. position_of (nets_in_order design) (root design net) ≤ position_of (nets_in_order design) net) [
    | inl before ↦ elim (cases_lt (position_of (nets_in_order design) net) (position_of (nets_in_order design) (root design net))) as (λ _. position_of (nets_in_order design) (root design net) ≤ position_of (nets_in_order design) net) [
      | inl l ↦ absurd (later before (pair_at IsEarlierNet (nets_in_order design) (position_of (nets_in_order design) net) (position_of (nets_in_order design) (root design net)) net (root design net) (nets_ascend design) l (net_there design faultless net n) (net_there design faultless (root design net) (root_is_net design faultless net n))))
      | inr m ↦ m
    ]
    | inr same ↦ (let e : length (root design net).place ≡ length net.place = ap (λ (p : Place). length p) same in absurd (omega arith))
  ]
]
  where
    later : IsBefore (root design net).place net.place → IsEarlierNet net (root design net) → ⊥
    later before (inl b) = places_are_ordered.never_itself net.place (places_are_ordered.goes_on net.place (root design net).place net.place b before)
    later before (inr same) = places_are_ordered.never_itself net.place (subst (λ p. IsBefore p net.place) (sym same.0) before)

pub root_of_root : (design : Design) → AreFaultless design.models → (net : Net) → root design (root design net) ≡ root design net
root_of_root design faultless net = sym ((joined_is_same_root design (formals_once design faultless) net (root design net)).0 (root_joined design faultless net))

pub firsts_are_roots : FirstsAreRoots
firsts_are_roots design flat faultless h net n = (to, back)
  where
    at : Net → ℕ
    at net = position_of (nets_in_order design) net

    to : IsFirstOfClass flat (id_of design net.place net.name) → root design net ≡ net
    to first = by (cases_lt (at (root design net)) (at net))
      where
        by : (at (root design net) < at net) ⊎ (at net ≤ at (root design net)) → root design net ≡ net
        by (inl l) =
            absurd (first (at (root design net)) l
            (ap (λ (x : FlatNet). x.class) (flat_net_at design flat h (at (root design net)) (root design net) (net_there design faultless (root design net) (root_is_net design faultless net n)))
            ∙ ap at (root_of_root design faultless net) ∙ sym (class_is design flat faultless h net n)))
        by (inr m) =
            let l : at (root design net) ≤ at net = root_first design faultless net n in
            one_position design faultless (root design net) net (root_is_net design faultless net n) n (omega arith)

    back : root design net ≡ net → (k : ℕ) → k < at net → (get_or flat.nets k no_net).class ≢ class_of flat (id_of design net.place net.name)
    back own k less same =
        let there : at net < length (nets_in_order design) = slice_get_within (nets_in_order design) (at net) net (net_there design faultless net n) in
        let other : Net = get_or (nets_in_order design) k net in
        let is_other : slice_get (nets_in_order design) k ≡ Some other = slice_get-get_or (nets_in_order design) k net (omega arith) in
        let other_net : IsNet design other = net_is design other (in_got (nets_in_order design) k other is_other) in
        let first : at (root design other) ≤ at other = root_first design faultless other other_net in
        let here : at other ≡ k = one_place (nets_in_order design) (at other) k other (nets_once design) (net_there design faultless other other_net) is_other in
        let same_root : at (root design other) ≡ at net = sym (ap (λ (x : FlatNet). x.class) (flat_net_at design flat h k other is_other)) ∙ same ∙ class_is design flat faultless h net n ∙ ap at own in
        absurd (omega arith)
