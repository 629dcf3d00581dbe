-- The classes of controls, and the inputs among ports.
use Rattle.std.proofs.Common.{ℕ, ◌≡◌, ◌≢◌, ◌<◌, ◌≤◌, ◌+◌, ◌⊎◌, ◌↔◌, inl, inr, List, [], ◌∷◌, ◌++◌, Bool, true, false, Option, Some, None, slice_get, get_or, length, map, take, set, option_map, option_and_then, refl, sym, ap, ◌∙◌, subst, arith, length-set, get_or-set_same, get_or-set_other}
use Rattle.std.specs.Prelude.{All, MatchOption, ⊤, option_to_list}
use Rattle.std.proofs.lemmas.List.{map-append, take_more}
use Rattle.std.proofs.lemmas.Option.{none-some, slice_get-map, slice_get_within, get_or_from_slice_get, same_Some}
use Rattle.std.proofs.lemmas.Bool.{cases_eq}
use Rattle.netlist_core.specs.declared.flat.FlatLatch.{FlatLatch}
use Rattle.netlist_core.specs.declared.flat.FlatPort.{FlatPort}
use Rattle.netlist_core.specs.declared.flat.NetId.{NetId}
use Rattle.netlist_core.specs.declared.model.Design.{Design}
use Rattle.netlist_core.specs.declared.model.LatchRow.{LatchRow}
use Rattle.netlist_core.specs.declared.model.Model.{Model}
use Rattle.netlist_core.specs.declared.model.Port.{Port}
use Rattle.netlist_core.specs.Names.{Name}
use Rattle.netlist_meaning.specs.Places.{Place, model_at}
use Rattle.netlist_meaning.specs.Nets.{Net, net_at, IsNet, IsControl}
use Rattle.netlist_meaning.specs.InOrder.{nets_in_order}
use Rattle.netlist_meaning.specs.FlatOf.{position_of, id_of, class_of_net, flat_latch, flat_port, at_places, PortsWithoutControl, none, kept, left_out}
use Rattle.netlist_meaning.specs.Roots.{root}
use Rattle.netlist_meaning.proofs.Names.{and_then-from}
use Rattle.netlist_rules.specs.ModelFaults.{AreFaultless}
use Rattle.lists.proofs.Members.{In, in_from, in_mapped, contains_from, in_got, got_from}
use Rattle.lists.proofs.Numbers.{less_or_last}
use Rattle.flat_designs.proofs.Lists.{in_some_map, all_of}
use Rattle.flat_designs.proofs.Listed.{net_is}
use Rattle.flat_designs.proofs.Classes.{net_there, class_joined, joined_class, root_is_net}
use Rattle.flat_designs.proofs.Indices.{At, at_of, index_of}
use Rattle.flat_designs.proofs.Names.{latch_name, is_net_of}
use Rattle.netlist_flatten.proofs.Listing.{all_at}
use Rattle.netlist_flatten.specs.Inputs.{AreInputs, HasControlClass}

-- the class of a net of the design, in the table of classes
pub class_in : (design : Design) (net : Net) (classes : List ℕ) → AreFaultless design.models → IsNet design net → classes ≡ map (class_of_net design) (nets_in_order design) → slice_get classes (position_of (nets_in_order design) net) ≡ Some (class_of_net design net)
class_in design net classes faultless is_net known =
    ap (λ (xs : List ℕ). slice_get xs (position_of (nets_in_order design) net)) known
    ∙ slice_get-map (class_of_net design) (nets_in_order design) (position_of (nets_in_order design) net)
    ∙ ap (option_map (class_of_net design)) (net_there design faultless net is_net)

pub class_got : (design : Design) (net : Net) (classes : List ℕ) → AreFaultless design.models → IsNet design net → classes ≡ map (class_of_net design) (nets_in_order design) → get_or classes (position_of (nets_in_order design) net) 0 ≡ class_of_net design net
class_got design net classes faultless is_net known = get_or_from_slice_get classes (position_of (nets_in_order design) net) (class_of_net design net) 0 (class_in design net classes faultless is_net known)

-- the control of a latch at a place is a net there
pub control_net : (design : Design) (place : Place) (m : Model) (row : LatchRow) (number : ℕ) (name : Name) → model_at design place ≡ Some m → slice_get m.latches number ≡ Some row → row.control ≡ Some name → IsNet design (net_at place name)
control_net design place m row number name is_m is_row is_name =
    is_net_of design place m name is_m (latch_name m row name (in_got m.latches number row is_row) (inr (inr (subst (λ (o : Option Name). In name (option_to_list o)) (sym is_name) (inl refl)))))

-- a net is the control where a latch's control has its class, and there only
pub has_control : (design : Design) (net : Net) (classes : List ℕ) (latches : List FlatLatch) → AreFaultless design.models → IsNet design net → classes ≡ map (class_of_net design) (nets_in_order design)
    → latches ≡ at_places design (λ (model : Model). model.latches) (flat_latch design) → HasControlClass classes latches (get_or classes (position_of (nets_in_order design) net) 0) → IsControl design net
has_control design net classes latches faultless is_net known listed (latch, id, i, is_control, same) =
    let (n, is_n) = got_from latches latch (in_from latches latch i) in
    let r : At design (λ (model : Model). model.latches) (flat_latch design) n latch = at_of design (λ (model : Model). model.latches) (flat_latch design) n latch (ap (λ (xs : List FlatLatch). slice_get xs n) (sym listed) ∙ is_n) in
    let (name, is_name, is_id) = in_some_map (id_of design r.place) r.item.control id (ap (λ (l : FlatLatch). l.control) r.is_value ∙ is_control) in
    let source : IsNet design (net_at r.place name) = control_net design r.place r.model r.item r.number name r.has_model r.has_item is_name in
    let class : class_of_net design (net_at r.place name) ≡ class_of_net design net =
    sym (class_got design (net_at r.place name) classes faultless source known) ∙ ap (λ (k : NetId). get_or classes k.0 0) is_id ∙ same ∙ class_got design net classes faultless is_net known in (
      net_at r.place name,
      record { number = r.number; latch = r.item; has_latch = ap (option_and_then (λ (m : Model). slice_get m.latches r.number)) r.has_model ∙ r.has_item; has_control = is_name },
      class_joined design faultless (net_at r.place name) net source is_net class,
    )

pub control_has : (design : Design) (net : Net) (classes : List ℕ) (latches : List FlatLatch) → AreFaultless design.models → IsNet design net → classes ≡ map (class_of_net design) (nets_in_order design)
    → latches ≡ at_places design (λ (model : Model). model.latches) (flat_latch design) → IsControl design net → HasControlClass classes latches (get_or classes (position_of (nets_in_order design) net) 0)
control_has design net classes latches faultless is_net known listed (source, h, joined) =
    let (m, is_m, is_row) = and_then-from (λ (m : Model). slice_get m.latches h.number) (model_at design source.place) h.latch h.has_latch in
    let (n, at, is_n) = index_of design faultless (λ (model : Model). model.latches) (flat_latch design) source.place m h.number h.latch is_m is_row in
    let is_source : IsNet design source = control_net design source.place m h.latch h.number source.name is_m is_row h.has_control in (
      flat_latch design source.place h.latch,
      id_of design source.place source.name,
      contains_from latches (flat_latch design source.place h.latch) (in_got latches n (flat_latch design source.place h.latch) (ap (λ (xs : List FlatLatch). slice_get xs n) listed ∙ is_n)),
      ap (option_map (id_of design source.place)) h.has_control,
      class_got design source classes faultless is_source known ∙ joined_class design faultless source net joined ∙ sym (class_got design net classes faultless is_net known),
    )

-- one of the latches so far has a control of that class
pub record HasControlBefore (classes : List ℕ) (latches : List FlatLatch) (count class : ℕ) : Type 0 where
  pub number : ℕ
  pub latch : FlatLatch
  pub id : NetId
  pub earlier : number < count
  pub is_latch : slice_get latches number ≡ Some latch
  pub is_control : latch.control ≡ Some id
  pub is_class : get_or classes id.0 0 ≡ class

-- the marks so far
pub record MarkedBefore (classes : List ℕ) (latches : List FlatLatch) (count : ℕ) (marks : List Bool) : Type 0 where
  pub many : length marks ≡ length classes
  pub marked : (class : ℕ) → get_or marks class false ≡ true → HasControlBefore classes latches count class
  pub marks_all : (class : ℕ) → HasControlBefore classes latches count class → get_or marks class false ≡ true

has_later : (classes : List ℕ) (latches : List FlatLatch) (count class : ℕ) → HasControlBefore classes latches count class → HasControlBefore classes latches (count + 1) class
has_later classes latches count class h = record { number = h.number; latch = h.latch; id = h.id; earlier = (let l : h.number < count = h.earlier in omega arith); is_latch = h.is_latch; is_control = h.is_control; is_class = h.is_class }

-- a latch with such a control is an earlier one, or the last
was_before : (classes : List ℕ) (latches : List FlatLatch) (count class : ℕ) (latch : FlatLatch) → slice_get latches count ≡ Some latch → HasControlBefore classes latches (count + 1) class
    → HasControlBefore classes latches count class ⊎ ((id : NetId) × (latch.control ≡ Some id) × (get_or classes id.0 0 ≡ class))
was_before classes latches count class latch is h = by (less_or_last h.number count h.earlier)
  where
    by : (h.number < count) ⊎ (h.number ≡ count) → HasControlBefore classes latches count class ⊎ ((id : NetId) × (latch.control ≡ Some id) × (get_or classes id.0 0 ≡ class))
    by (inl l) = inl (record { number = h.number; latch = h.latch; id = h.id; earlier = l; is_latch = h.is_latch; is_control = h.is_control; is_class = h.is_class })
    by (inr e) = inr (h.id, ap (λ (x : FlatLatch). x.control) (same_Some _ _ (sym is ∙ ap (slice_get latches) (sym e) ∙ h.is_latch)) ∙ h.is_control, h.is_class)

-- a latch without a control
pub marked_none : (classes : List ℕ) (latches : List FlatLatch) (count : ℕ) (marks : List Bool) (latch : FlatLatch) → slice_get latches count ≡ Some latch → latch.control ≡ None → MarkedBefore classes latches count marks → MarkedBefore classes latches (count + 1) marks
marked_none classes latches count marks latch is free before = record {
  many = before.many;
  marked = λ class m. has_later classes latches count class (before.marked class m);
  marks_all = λ class h. by class (was_before classes latches count class latch is h);
}
  where
    by : (class : ℕ) → HasControlBefore classes latches count class ⊎ ((id : NetId) × (latch.control ≡ Some id) × (get_or classes id.0 0 ≡ class)) → get_or marks class false ≡ true
    by class (inl h) = before.marks_all class h
    by class (inr (id, is_id, same)) = absurd (none-some id (sym free ∙ is_id))

-- and one with
pub marked_some : (classes : List ℕ) (latches : List FlatLatch) (count : ℕ) (marks : List Bool) (latch : FlatLatch) (id : NetId) (mark : ℕ) → slice_get latches count ≡ Some latch → latch.control ≡ Some id → get_or classes id.0 0 ≡ mark → mark < length classes → MarkedBefore classes latches count marks
    → MarkedBefore classes latches (count + 1) (set marks mark true)
marked_some classes latches count marks latch id mark is is_id is_mark within before = record {
  many = length-set marks mark true ∙ before.many;
  marked = λ class m. marked_by class (cases_eq class mark) m;
  marks_all = λ class h. all_by class (cases_eq class mark) (was_before classes latches count class latch is h);
}
  where
    there : mark < length marks
    there = let m : length marks ≡ length classes = before.many in omega arith

    same_mark : (class : ℕ) → class ≡ mark → get_or (set marks mark true) class false ≡ true
    same_mark class e = ap (λ n. get_or (set marks mark true) n false) e ∙ get_or-set_same marks mark true false there

    marked_by : (class : ℕ) → (class ≡ mark) ⊎ (class ≢ mark) → get_or (set marks mark true) class false ≡ true → HasControlBefore classes latches (count + 1) class
    marked_by class (inl e) m = record { number = count; latch = latch; id = id; earlier = (let h : count < count + 1 = omega arith in h); is_latch = is; is_control = is_id; is_class = is_mark ∙ sym e }
    marked_by class (inr differ) m = has_later classes latches count class (before.marked class (sym (get_or-set_other marks mark class true false differ) ∙ m))

    other_by : (class : ℕ) → class ≢ mark → HasControlBefore classes latches count class ⊎ ((own : NetId) × (latch.control ≡ Some own) × (get_or classes own.0 0 ≡ class)) → get_or (set marks mark true) class false ≡ true
    other_by class differ (inl h) = get_or-set_other marks mark class true false differ ∙ before.marks_all class h
    other_by class differ (inr (own, is_own, same)) = absurd (differ (sym same ∙ ap (λ (n : NetId). get_or classes n.0 0) (same_Some _ _ (sym is_own ∙ is_id)) ∙ is_mark))

    all_by : (class : ℕ) → (class ≡ mark) ⊎ (class ≢ mark) → HasControlBefore classes latches count class ⊎ ((own : NetId) × (latch.control ≡ Some own) × (get_or classes own.0 0 ≡ class)) → get_or (set marks mark true) class false ≡ true
    all_by class (inl e) h = same_mark class e
    all_by class (inr differ) h = other_by class differ h

-- once all latches are read
pub marked_all : (classes : List ℕ) (latches : List FlatLatch) (count : ℕ) (marks : List Bool) → length latches ≤ count → MarkedBefore classes latches count marks → (class : ℕ) → (get_or marks class false ≡ true) ↔ HasControlClass classes latches class
marked_all classes latches count marks all before class = (to, back)
  where
    to : get_or marks class false ≡ true → HasControlClass classes latches class
    to m =
        let h : HasControlBefore classes latches count class = before.marked class m in
        (h.latch, h.id, contains_from latches h.latch (in_got latches h.number h.latch h.is_latch), h.is_control, h.is_class)

    back : HasControlClass classes latches class → get_or marks class false ≡ true
    back (latch, id, c, is_id, same) =
        let (k, is) = got_from latches latch (in_from latches latch c) in
        before.marks_all class (record { number = k; latch = latch; id = id; earlier = (let w : k < length latches = slice_get_within latches k latch is in omega arith); is_latch = is; is_control = is_id; is_class = same })

-- inputs, port by port
pub kept_more : (design : Design) (ports rest : List Port) (port : Port) → ¬ IsControl design (net_at [] port.name) → PortsWithoutControl design ports rest → PortsWithoutControl design (ports ++ port ∷ []) (rest ++ port ∷ [])
kept_more design ports rest port free none = kept free none
kept_more design (p ∷ ports) (q ∷ rest) port free (kept other h) = kept other (kept_more design ports rest port free h)
kept_more design (p ∷ ports) rest port free (left_out other h) = left_out other (kept_more design ports rest port free h)

pub left_more : (design : Design) (ports rest : List Port) (port : Port) → IsControl design (net_at [] port.name) → PortsWithoutControl design ports rest → PortsWithoutControl design (ports ++ port ∷ []) rest
left_more design ports rest port control none = left_out control none
left_more design (p ∷ ports) (q ∷ rest) port control (kept other h) = kept other (left_more design ports rest port control h)
left_more design (p ∷ ports) rest port control (left_out other h) = left_out other (left_more design ports rest port control h)

pub inputs_start : (design : Design) (inputs : List FlatPort) → inputs ≡ [] → AreInputs design [] inputs
inputs_start design inputs e = record { in_ports = []; are_in_ports = none; are_flat = e }

pub inputs_kept : (design : Design) (ports : List Port) (i : ℕ) (port : Port) (inputs more : List FlatPort) (flat : FlatPort) → i < length ports → port ≡ get_or ports i port → flat ≡ flat_port design port → more ≡ inputs ++ flat ∷ [] → ¬ IsControl design (net_at [] port.name)
    → AreInputs design (take i ports) inputs → AreInputs design (take (i + 1) ports) more
inputs_kept design ports i port inputs more flat l is is_flat is_more free before = record {
  in_ports = before.in_ports ++ port ∷ [];
  are_in_ports = subst (λ (ps : List Port). PortsWithoutControl design ps (before.in_ports ++ port ∷ [])) (sym (take_more ports i port l ∙ ap (λ p. take i ports ++ p ∷ []) (sym is))) (kept_more design (take i ports) before.in_ports port free before.are_in_ports);
  are_flat = is_more ∙ ap (λ (ps : List FlatPort). ps ++ flat ∷ []) before.are_flat ∙ ap (λ (p : FlatPort). map (flat_port design) before.in_ports ++ p ∷ []) is_flat ∙ sym (map-append (flat_port design) before.in_ports (port ∷ []));
}

pub inputs_left : (design : Design) (ports : List Port) (i : ℕ) (port : Port) (inputs : List FlatPort) → i < length ports → port ≡ get_or ports i port → IsControl design (net_at [] port.name) → AreInputs design (take i ports) inputs → AreInputs design (take (i + 1) ports) inputs
inputs_left design ports i port inputs l is control before = record {
  in_ports = before.in_ports;
  are_in_ports = subst (λ (ps : List Port). PortsWithoutControl design ps before.in_ports) (sym (take_more ports i port l ∙ ap (λ p. take i ports ++ p ∷ []) (sym is))) (left_more design (take i ports) before.in_ports port control before.are_in_ports);
  are_flat = before.are_flat;
}

-- all numbers are in range
pub number_there : (design : Design) (net : Net) (classes : List ℕ) → AreFaultless design.models → IsNet design net → classes ≡ map (class_of_net design) (nets_in_order design) → position_of (nets_in_order design) net < length classes
number_there design net classes faultless is_net known = slice_get_within classes (position_of (nets_in_order design) net) (class_of_net design net) (class_in design net classes faultless is_net known)

pub classes_there : (design : Design) (classes : List ℕ) → AreFaultless design.models → classes ≡ map (class_of_net design) (nets_in_order design) → All (λ class. class < length classes) classes
classes_there design classes faultless known = all_of (λ class. class < length classes) classes there
  where
    there : (class : ℕ) → In class classes → class < length classes
    there class i =
        let (net, j, is) = in_mapped (class_of_net design) (nets_in_order design) class (subst (λ (xs : List ℕ). In class xs) known i) in
        subst (λ n. n < length classes) (sym is) (number_there design (root design net) classes faultless (root_is_net design faultless net (net_is design net j)) known)

pub controls_there : (design : Design) (classes : List ℕ) (latches : List FlatLatch) → AreFaultless design.models → classes ≡ map (class_of_net design) (nets_in_order design) → latches ≡ at_places design (λ (model : Model). model.latches) (flat_latch design)
    → All (λ (latch : FlatLatch). MatchOption latch.control ⊤ (λ id. id.0 < length classes)) latches
controls_there design classes latches faultless known listed = all_of (λ (latch : FlatLatch). MatchOption latch.control ⊤ (λ id. id.0 < length classes)) latches there
  where
    by : (place : Place) (m : Model) (row : LatchRow) (number : ℕ) → model_at design place ≡ Some m → slice_get m.latches number ≡ Some row → (o : Option Name) → row.control ≡ o → MatchOption (option_map (id_of design place) o) ⊤ (λ id. id.0 < length classes)
    by place m row number is_m is_row None e = tt
    by place m row number is_m is_row (Some name) e = number_there design (net_at place name) classes faultless (control_net design place m row number name is_m is_row e) known

    there : (latch : FlatLatch) → In latch latches → MatchOption latch.control ⊤ (λ id. id.0 < length classes)
    there latch i =
        let (n, is_n) = got_from latches latch i in
        let r : At design (λ (model : Model). model.latches) (flat_latch design) n latch = at_of design (λ (model : Model). model.latches) (flat_latch design) n latch (ap (λ (xs : List FlatLatch). slice_get xs n) (sym listed) ∙ is_n) in
        subst (λ (l : FlatLatch). MatchOption l.control ⊤ (λ id. id.0 < length classes)) r.is_value (by r.place r.model r.item r.number r.has_model r.has_item r.item.control refl)

pub mark_there : (classes : List ℕ) (latches : List FlatLatch) (k : ℕ) (latch : FlatLatch) (id : NetId) → All (λ class. class < length classes) classes → All (λ (latch : FlatLatch). MatchOption latch.control ⊤ (λ id. id.0 < length classes)) latches
    → slice_get latches k ≡ Some latch → latch.control ≡ Some id → get_or classes id.0 0 < length classes
mark_there classes latches k latch id all controls is is_id =
    let within : id.0 < length classes = subst (λ (o : Option NetId). MatchOption o ⊤ (λ id. id.0 < length classes)) is_id (all_at (λ (l : FlatLatch). MatchOption l.control ⊤ (λ id. id.0 < length classes)) latches latch controls (in_got latches k latch is)) in
    all id.0 0 within

-- what the table of marks tells of a port
pub tells : (design : Design) (port : Port) (flat : FlatPort) (classes : List ℕ) (latches : List FlatLatch) (held marks : List Bool) (answer : Bool) → AreFaultless design.models → IsNet design (net_at [] port.name) → classes ≡ map (class_of_net design) (nets_in_order design)
    → latches ≡ at_places design (λ (model : Model). model.latches) (flat_latch design) → ((class : ℕ) → (get_or marks class false ≡ true) ↔ HasControlClass classes latches class) → held ≡ marks → flat ≡ flat_port design port → answer ≡ get_or held (get_or classes flat.net.0 0) false
    → (answer ≡ true) ↔ IsControl design (net_at [] port.name)
tells design port flat classes latches held marks answer faultless is_net known listed marked is_held is_flat is_answer = (to, back)
  where
    looked_up : answer ≡ get_or marks (get_or classes (position_of (nets_in_order design) (net_at [] port.name)) 0) false
    looked_up = is_answer ∙ ap (λ (p : FlatPort). get_or held (get_or classes p.net.0 0) false) is_flat ∙ ap (λ (xs : List Bool). get_or xs (get_or classes (position_of (nets_in_order design) (net_at [] port.name)) 0) false) is_held

    to : answer ≡ true → IsControl design (net_at [] port.name)
    to told = has_control design (net_at [] port.name) classes latches faultless is_net known listed ((marked _).0 (sym looked_up ∙ told))

    back : IsControl design (net_at [] port.name) → answer ≡ true
    back control = looked_up ∙ (marked _).1 (control_has design (net_at [] port.name) classes latches faultless is_net known listed control)
