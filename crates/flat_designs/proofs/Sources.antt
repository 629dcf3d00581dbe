-- The driver of a net is found, up through inputs and down through outputs.
use Rattle.std.proofs.Common.{◌≡◌, refl, sym, ap, subst, ◌∙◌, ℕ, zero, suc, ◌+◌, ◌<◌, ◌≤◌, inl, inr, List, [], ◌∷◌, ◌++◌, map, Bool, true, false, not, ◌||◌, true≢false, arith, length, slice_get, option_and_then, is_some}
use Rattle.std.specs.Prelude.{Some, None, Option, flat_map, option_to_list}
use Rattle.std.specs.Option.{option_map_or}
use Rattle.std.specs.Bool.{then_some}
use Rattle.std.specs.List.{list_any}
use Rattle.std.proofs.lemmas.Slice.Eq.{bytes_eq-Decides}
use Rattle.std.proofs.lemmas.List.{length_push}
use Rattle.netlist_core.specs.declared.model.Port.{Port}
use Rattle.netlist_core.specs.declared.model.Pin.{Pin}
use Rattle.netlist_core.specs.declared.model.Subckt.{Subckt}
use Rattle.netlist_core.specs.declared.model.Model.{Model}
use Rattle.netlist_core.specs.declared.model.Design.{Design}
use Rattle.netlist_core.specs.Names.{port_names, at_line, has_name, is_named, model_named}
use Rattle.netlist_meaning.specs.Places.{Place, main_model, model_placed, model_below, model_at}
use Rattle.netlist_meaning.specs.Nets.{Net, net_at, IsPinned, Joined, model_names}
use Rattle.netlist_meaning.specs.Nets.Joined.{by_pin, itself, reversed, followed}
use Rattle.netlist_meaning.proofs.Names.{and_then-from}
use Rattle.netlist_meaning.proofs.Depth.{model_at-append, places_are_shallow}
use Rattle.netlist_rules.specs.declared.fault.FaultKind.TheVariants.{DuplicatePort, PinMissing}
use Rattle.netlist_rules.specs.Drivers.{is_input_pin, is_output_pin, same_name_up_to, same_name_before, stands_earlier}
use Rattle.netlist_rules.specs.ModelFaults.{AreFaultless, unless_named, doubles_after, is_output_before, is_input_by_then, duplicate_ports, formals_of, unpinned_inputs, earliest, missing_pin, on_line}
use Rattle.lists.proofs.Members.{In, in_from, contains_from, in_left, in_right, in_parts, in_mapped, in_map, in_flat, filtered_in, in_got}
use Rattle.flat_designs.specs.OneDriver.{Driver, Drives, FaultlessHaveDrivers}
use Rattle.flat_designs.specs.OneDriver.Driver.{port, cover, latch}
use Rattle.flat_designs.specs.OneDriver.Drives.{of_port, of_cover, of_latch}
use Rattle.flat_designs.proofs.Faultless.{in_models, named_in, not_recursive, clean_of}
use Rattle.flat_designs.proofs.Local.{not_any, not_up_to, not_before}
use Rattle.flat_designs.proofs.OneDriver.{Local, Reaches, drivers_apart, input_pin}
use Rattle.flat_designs.proofs.OneDriver.Local.{by_input, by_cover, by_latch, by_output}
use Rattle.flat_designs.proofs.OneDriver.Reaches.{here, up, down}
use Rattle.flat_designs.proofs.Driven.{name_local}
use Rattle.lists.proofs.Bools.{or_false_right as second_of}
use Rattle.lists.proofs.Appends.{append_nil_left as none_left, append_nil_right as none_right}
use Rattle.netlist_rules.proofs.Faultless.{nothing_of as none_of, port_name}
use Rattle.netlist_rules.proofs.Faultless.{none_kept}
use Rattle.netlist_rules.proofs.FirstModelFaults.{none_empty as none_earliest}

-- no name is an input and an output
none_doubles : (test : Port → Bool) (before ports : List Port) (p : Port) → doubles_after test before ports ≡ [] → In p ports → test p ≡ false
none_doubles test before [] p e i = absurd i
none_doubles test before (x ∷ xs) p e (inl same) =
    ap test same ∙ second_of (stands_earlier before x xs) (test x) (none_kept (stands_earlier before x xs || test x) x (none_left (option_to_list (then_some (stands_earlier before x xs || test x) x)) (doubles_after test (x ∷ before) xs) e))
none_doubles test before (x ∷ xs) p e (inr later) = none_doubles test (x ∷ before) xs p (none_right (option_to_list (then_some (stands_earlier before x xs || test x) x)) (doubles_after test (x ∷ before) xs) e) later

input_no_output : (m : Model) (name : List ℕ) → duplicate_ports m ≡ [] → In name (port_names (m.ins ++ m.clocks)) → In name (port_names m.outs) → ⊥
input_no_output m name e i o =
    let (p, x, is_p) = in_mapped port_name (m.ins ++ m.clocks) name i in
    let (q, y, is_q) = in_mapped port_name m.outs name o in
    let front : doubles_after (is_output_before m) [] m.ins ++ doubles_after (is_output_before m) [] m.clocks ≡ [] = none_left _ (doubles_after (is_input_by_then m) [] m.outs) e in
    let back : doubles_after (is_input_by_then m) [] m.outs ≡ [] = none_right (doubles_after (is_output_before m) [] m.ins ++ doubles_after (is_output_before m) [] m.clocks) _ e in
    let less : q.line < p.line = not_up_to q p (not_any (same_name_up_to q) (m.ins ++ m.clocks) p (none_doubles (is_input_by_then m) [] m.outs q back y) x) (sym is_p ∙ is_q) in
    let not_out : is_output_before m p ≡ false = elim (in_parts m.ins m.clocks p x) as (λ _. is_output_before m p ≡ false) [
      | inl a ↦ none_doubles (is_output_before m) [] m.ins p (none_left _ (doubles_after (is_output_before m) [] m.clocks) front) a
      | inr b ↦ none_doubles (is_output_before m) [] m.clocks p (none_right (doubles_after (is_output_before m) [] m.ins) _ front) b
    ] in
    let more : p.line ≤ q.line = not_before p q (not_any (same_name_before p) m.outs q not_out y) (sym is_q ∙ is_p) in
    absurd (omega arith)

none_mapped : (f : Port → Port) (o : Option Port) → map f (option_to_list o) ≡ [] → o ≡ None
none_mapped f None e = refl
none_mapped f (Some p) e = absurd (cc)

record HasPin (s : Subckt) (name : List ℕ) : Type 0 where
  pub pin : Pin
  pub is_pin : In pin s.pins
  pub is_formal : pin.formal ≡ name

has_pin : (models : List Model) (s : Subckt) (placed : Model) (name : List ℕ) → model_named models s.model ≡ Some placed → missing_pin models s ≡ [] → In name (port_names (placed.ins ++ placed.clocks)) → HasPin s name
has_pin models s placed name found e i =
    let none : earliest (unpinned_inputs s placed) ≡ None = sym (ap (λ o. option_map_or (λ (m : Model). earliest (unpinned_inputs s m)) o None) found) ∙ none_mapped (on_line s.line) (option_map_or (λ (m : Model). earliest (unpinned_inputs s m)) (model_named models s.model) None) e in
    let (p, x, is_p) = in_mapped port_name (placed.ins ++ placed.clocks) name i in
    let name_in : In p.name (port_names (formals_of s)) = named_in (formals_of s) p.name (by p x (none_earliest (unpinned_inputs s placed) none) (is_named (formals_of s) p.name) refl) in
    let (f, y, is_f) = in_mapped port_name (formals_of s) p.name name_in in
    let (pin, z, is_pin) = in_mapped (λ (pin : Pin). at_line s.line pin.formal) s.pins f y in
    record { pin = pin; is_pin = z; is_formal = sym (is_p ∙ is_f ∙ ap port_name is_pin) }
  where
    by : (p : Port) → In p (placed.ins ++ placed.clocks) → unpinned_inputs s placed ≡ [] → (b : Bool) → is_named (formals_of s) p.name ≡ b → is_named (formals_of s) p.name ≡ true
    by p x n true h = h
    by p x n false h = absurd (subst (λ v. In p v) n (filtered_in (unless_named (formals_of s)) (placed.ins ++ placed.clocks) p p x (ap (λ b. then_some (not b) p) h)))

in_named : (ports : List Port) (name : List ℕ) → In name (port_names ports) → list_any (has_name name) ports ≡ true
in_named [] name i = absurd i
in_named (p ∷ ps) name (inl e) = ap (λ b. b || list_any (has_name name) ps) ((bytes_eq-Decides p.name name).1 (sym e))
in_named (p ∷ ps) name (inr i) = by (has_name name p) (in_named ps name i)
  where
    by : (b : Bool) → list_any (has_name name) ps ≡ true → (b || list_any (has_name name) ps) ≡ true
    by true e = refl
    by false e = e

-- the pin at which an output is driven inside
record GoesIn (design : Design) (place : Place) (name : List ℕ) : Type 0 where
  pub inner : Net
  pub pinned : IsPinned design (net_at place name) inner
  pub is_down : is_output_pin (model_named design.models pinned.line.model) pinned.pin ≡ true
  pub placed : Model
  pub is_deeper : length inner.place ≡ length place + 1
  pub is_at : model_at design inner.place ≡ Some placed
  pub is_output : In inner.name (port_names placed.outs)

goes_in : (design : Design) (place : Place) (m : Model) (name : List ℕ) (n : ℕ) (s : Subckt) (pin : Pin) → model_at design place ≡ Some m → slice_get m.subckts n ≡ Some s → In pin s.pins → is_output_pin (model_named design.models s.model) pin ≡ true → pin.actual ≡ name → GoesIn design place name
goes_in design place m name n s pin is_m is_line is_pin t is_actual = by (model_named design.models s.model) refl t
  where
    by : (o : Option Model) → model_named design.models s.model ≡ o → is_output_pin o pin ≡ true → GoesIn design place name
    by None f e = absurd (true≢false (sym e))
    by (Some placed) f e = record {
      inner = net_at (place ++ n ∷ []) pin.formal;
      pinned = record { model = m; line = s; pin = pin; number = n; has_model = is_m; has_line = is_line; has_pin = contains_from s.pins pin is_pin; is_actual = sym is_actual; is_deeper = refl; is_formal = refl };
      is_down = t;
      placed = placed;
      is_deeper = length_push place n;
      is_at = model_at-append design place (n ∷ []) ∙ ap (option_and_then (model_below design (n ∷ []))) is_m
          ∙ ap (λ o. option_and_then (model_below design []) (option_and_then (λ (l : Subckt). model_named design.models l.model) o)) is_line ∙ ap (option_and_then (model_below design [])) f;
      is_output = named_in placed.outs pin.formal e;
    }

abbrev Found : Design → Net → Type 0
Found design net = (d : Driver) × Reaches design net d

reach_down : (fuel : ℕ) (design : Design) → AreFaultless design.models → (place : Place) (m : Model) (name : List ℕ) → length design.models ≤ length place + fuel → model_at design place ≡ Some m → Local design.models m name → ¬ In name (port_names (m.ins ++ m.clocks)) → Found design (net_at place name)
reach_down fuel design a place m name enough is_m (by_input i) never = absurd (never i)
reach_down fuel design a place m name enough is_m (by_cover n c g e) never = (cover place n, here (subst (λ v. Drives design (cover place n) (net_at place v)) e (of_cover is_m g)))
reach_down fuel design a place m name enough is_m (by_latch n l g e) never = (latch place n, here (subst (λ v. Drives design (latch place n) (net_at place v)) e (of_latch is_m g)))
reach_down zero design a place m name enough is_m (by_output n s pin g j t e) never =
    let shallow : length place < length design.models = places_are_shallow design (not_recursive design a) place (ap is_some is_m) in
    absurd (omega arith)
reach_down (suc fuel) design a place m name enough is_m (by_output n s pin g j t e) never =
    let w : GoesIn design place name = goes_in design place m name n s pin is_m g j t e in
    let in_w : In w.placed design.models = in_models design w.inner.place w.placed w.is_at in
    let more : length design.models ≤ length w.inner.place + fuel = let d : length w.inner.place ≡ length place + 1 = w.is_deeper in omega arith in
    let (d, r) = reach_down fuel design a w.inner.place w.placed w.inner.name more w.is_at
    (name_local design.models a w.placed in_w w.inner.name (in_left _ _ w.inner.name (in_left _ _ w.inner.name (in_left _ _ w.inner.name (in_left _ _ w.inner.name (in_right (port_names w.placed.ins) _ w.inner.name w.is_output))))))
    (λ i. input_no_output w.placed w.inner.name (clean_of design.models a DuplicatePort w.placed in_w) i w.is_output) in
    (d, down w.pinned w.is_down r)

-- a place is the main model's, or lies inside another
data Deep : Place → Type 0 where
  main_place : Deep []
  inside_place : (outer : Place) (number : ℕ) → Deep (outer ++ number ∷ [])

deep : (place : Place) → Deep place
deep [] = main_place
deep (n ∷ place) = by n place (deep place)
  where
    by : (n : ℕ) (p : Place) → Deep p → Deep (n ∷ p)
    by n [] main_place = inside_place [] n
    by n p (inside_place outer number) = inside_place (n ∷ outer) number

-- the pin at which an input is driven outside
record GoesOut (design : Design) (place : Place) (name : List ℕ) : Type 0 where
  pub outer : Net
  pub outer_model : Model
  pub pinned : IsPinned design outer (net_at place name)
  pub is_up : is_input_pin (model_named design.models pinned.line.model) pinned.pin ≡ true
  pub is_at : model_at design outer.place ≡ Some outer_model
  pub is_name : In outer.name (model_names outer_model)
  pub is_nearer : length place ≡ length outer.place + 1

goes_out : (design : Design) → AreFaultless design.models → (outer : Place) (number : ℕ) (m : Model) (name : List ℕ) → model_at design (outer ++ number ∷ []) ≡ Some m → In name (port_names (m.ins ++ m.clocks)) → GoesOut design (outer ++ number ∷ []) name
goes_out design a outer number m name is_m i =
    let (o, is_o, rest) = and_then-from (model_below design (number ∷ [])) (model_at design outer) m (sym (model_at-append design outer (number ∷ [])) ∙ is_m) in
    let (n, is_n, same) = and_then-from (model_below design []) (model_placed design o number) m rest in
    let (line, is_line, found) = and_then-from (λ (l : Subckt). model_named design.models l.model) (slice_get o.subckts number) n is_n in
    let is_found : model_named design.models line.model ≡ Some m = found ∙ same in
    let in_line : In line o.subckts = in_got o.subckts number line is_line in
    let none_missing : missing_pin design.models line ≡ [] = none_of (missing_pin design.models) o.subckts line (clean_of design.models a PinMissing o (in_models design outer o is_o)) in_line in
    let p : HasPin line name = has_pin design.models line m name is_found none_missing i in
    record {
      outer = net_at outer p.pin.actual;
      outer_model = o;
      pinned = record { model = o; line = line; pin = p.pin; number = number; has_model = is_o; has_line = is_line; has_pin = contains_from line.pins p.pin p.is_pin; is_actual = refl; is_deeper = refl; is_formal = sym p.is_formal };
      is_up = ap (λ v. is_input_pin v p.pin) is_found ∙ in_named (m.ins ++ m.clocks) p.pin.formal (subst (λ v. In v (port_names (m.ins ++ m.clocks))) (sym p.is_formal) i);
      is_at = is_o;
      is_name = in_right _ (flat_map (λ (l : Subckt). map (λ (q : Pin). q.actual) l.pins) o.subckts) p.pin.actual (in_flat (λ (l : Subckt). map (λ (q : Pin). q.actual) l.pins) o.subckts line p.pin.actual in_line (in_map (λ (q : Pin). q.actual) line.pins p.pin p.is_pin));
      is_nearer = length_push outer number;
    }

input_case : (design : Design) → AreFaultless design.models → (place : Place) → Deep place → (m : Model) (name : List ℕ) → model_at design place ≡ Some m → In name (port_names (m.ins ++ m.clocks))
    → ((outer : Place) (o : Model) (n : List ℕ) → length place ≡ length outer + 1 → model_at design outer ≡ Some o → Local design.models o n → Found design (net_at outer n)) → Found design (net_at place name)
input_case design a place main_place m name is_m i rec =
    let (x, is_x, same) = and_then-from (model_below design []) (main_model design) m is_m in
    (port name, here (of_port (is_x ∙ same) (contains_from (port_names (m.ins ++ m.clocks)) name i)))
input_case design a place (inside_place outer number) m name is_m i rec =
    let w : GoesOut design (outer ++ number ∷ []) name = goes_out design a outer number m name is_m i in
    let (d, r) = rec w.outer.place w.outer_model w.outer.name w.is_nearer w.is_at (name_local design.models a w.outer_model (in_models design w.outer.place w.outer_model w.is_at) w.outer.name w.is_name) in
    (d, up w.pinned w.is_up r)

reach : (fuel : ℕ) (design : Design) → AreFaultless design.models → (place : Place) (m : Model) (name : List ℕ) → length place ≤ fuel → model_at design place ≡ Some m → Local design.models m name → Found design (net_at place name)
reach fuel design a place m name enough is_m (by_cover n c g e) = (cover place n, here (subst (λ v. Drives design (cover place n) (net_at place v)) e (of_cover is_m g)))
reach fuel design a place m name enough is_m (by_latch n l g e) = (latch place n, here (subst (λ v. Drives design (latch place n) (net_at place v)) e (of_latch is_m g)))
reach fuel design a place m name enough is_m (by_output n s pin g j t e) =
    reach_down (length design.models) design a place m name (omega arith) is_m (by_output n s pin g j t e) (λ i. input_pin design.models m name (drivers_apart design a place m is_m) i n s pin g j t e)
reach zero design a place m name enough is_m (by_input i) = input_case design a place (deep place) m name is_m i (λ outer o n l e w. absurd (omega arith))
reach (suc fuel) design a place m name enough is_m (by_input i) = input_case design a place (deep place) m name is_m i (λ outer o n l e w. reach fuel design a outer o n (omega arith) e w)

source_of : (design : Design) (net : Net) (d : Driver) → Reaches design net d → (source : Net) × Drives design d source × Joined design source net
source_of design net d (here x) = (net, x, itself)
source_of design net d (up {outer = o} h k r) = let (s, x, j) = source_of design o d r in (s, x, followed j (by_pin h))
source_of design net d (down {inner = i} h k r) = let (s, x, j) = source_of design i d r in (s, x, followed j (reversed (by_pin h)))

pub have_drivers : FaultlessHaveDrivers
have_drivers design faultless net (m, is_m, contains) =
    let name : In net.name (model_names m) = in_from (model_names m) net.name contains in
    let (d, r) = reach (length net.place) design faultless net.place m net.name (omega arith) is_m (name_local design.models faultless m (in_models design net.place m is_m) net.name name) in
    let (source, drives, joined) = source_of design net d r in
    (d, source, drives, joined)
