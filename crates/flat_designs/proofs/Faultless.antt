-- Designs without a fault.
use Rattle.std.proofs.Common.{◌≡◌, refl, sym, ap, subst, ◌∙◌, ℕ, zero, suc, ◌<◌, ◌≤◌, ◌⊎◌, inl, inr, List, [], ◌∷◌, ◌++◌, map, Bool, true, false, not, ◌||◌, true≢false, arith, cond, slice_get, option_and_then, arith}
use Rattle.std.specs.Prelude.{Some, None, Option, bytes_eq, filter_map}
use Rattle.std.specs.Bool.{then_some}
use Rattle.std.specs.List.{list_any}
use Rattle.std.proofs.lemmas.Slice.Eq.{bytes_eq-Decides}
use Rattle.std.proofs.lemmas.Option.{none-some, same_Some}
use Rattle.std.proofs.lemmas.Bool.{cases_order, cases_lt, false_from_ne_true}
use Rattle.netlist_core.specs.declared.model.Port.{Port}
use Rattle.netlist_core.specs.declared.model.Pin.{Pin}
use Rattle.netlist_core.specs.declared.model.Subckt.{Subckt}
use Rattle.netlist_core.specs.declared.model.Model.{Model}
use Rattle.netlist_core.specs.declared.model.Design.{Design}
use Rattle.netlist_meaning.specs.Nets.{Net, IsNet, IsPinned, model_names}
use Rattle.netlist_rules.specs.Clocks.{IsClockUse, IsClockRead}
use Rattle.netlist_rules.specs.Clocks.IsClockFault.{two_clocks, clock_read}
use Rattle.netlist_rules.specs.FaultNames.{fault_on}
use Rattle.netlist_meaning.specs.Places.{Place, main_model, model_placed, model_below, model_at}
use Rattle.netlist_core.specs.Names.{port_names, model_named, has_name, at_line}
use Rattle.lists.proofs.Names.{bytes_eq-same}
use Rattle.netlist_meaning.proofs.Names.{and_then-from}
use Rattle.netlist_meaning.proofs.Depth.{model_at-append}
use Rattle.netlist_rules.specs.declared.fault.FaultKind.TheVariants.{NoSuchModel, NoSuchPin, TwoClocks, ClockRead}
use Rattle.netlist_rules.specs.Drivers.{has_input, has_output, is_input_pin, is_output_pin}
use Rattle.netlist_rules.specs.ModelFaults.{AreFaultless, words_at_fault, missing_model, unplaced, unknown_formals, is_portless, lacks_port, formal_if}
use Rattle.netlist_rules.proofs.FirstModelFaults.{no_model_fault}
use Rattle.netlist_rules.specs.Circles.{HasSubcktOf, Leads}
use Rattle.lists.proofs.Members.{In, in_from, contains_from, Distinct, distinct_from, in_map, in_left, in_right, filtered_in, in_got}
use Rattle.netlist_rules.proofs.ModelSteps.{model_of_name}
use Rattle.netlist_rules.proofs.Faultless.{no_model_is_in_itself, formals_are_distinct}
use Rattle.flat_designs.specs.Faultless.{FaultlessAreNotRecursive, FaultlessNameFormalsOnce, FaultlessAreWired}
use Rattle.netlist_rules.proofs.Faultless.{nothing_of as none_of}
use Rattle.netlist_rules.proofs.Faultless.{some_models}
use Rattle.netlist_rules.specs.declared.fault.FaultKind.{FaultKind}

-- a name finds the model
abbrev IsFound : List Model → Model → Type 0
IsFound models m = model_named models m.name ≡ Some m

found_first : (models : List Model) (m : Model) → slice_get models 0 ≡ Some m → IsFound models m
found_first [] m e = absurd (none-some m e)
found_first (x ∷ xs) m e =
    let same : x ≡ m = same_Some _ _ e in
    subst (λ v. model_named (x ∷ xs) v.name ≡ Some v) same (ap (λ b. cond b (Some x) (model_named xs x.name)) (bytes_eq-same x.name))

found_again : (models : List Model) (name : List ℕ) (m : Model) → model_named models name ≡ Some m → IsFound models m
found_again models name m e = subst (λ v. model_named models v ≡ Some m) (sym (model_of_name models name m e).1) e

-- a line of that number, with the model that it places
record Places (design : Design) (outer : Model) (number : ℕ) (inner : Model) : Type 0 where
  pub line : Subckt
  pub is_line : slice_get outer.subckts number ≡ Some line
  pub is_found : model_named design.models line.model ≡ Some inner

places : (design : Design) (outer : Model) (number : ℕ) (inner : Model) → model_placed design outer number ≡ Some inner → Places design outer number inner
places design outer number inner e =
    let (line, is_line, found) = and_then-from (λ (l : Subckt). model_named design.models l.model) (slice_get outer.subckts number) inner e in
    record { line = line; is_line = is_line; is_found = found }

found_below : (design : Design) (place : Place) (m b : Model) → IsFound design.models m → model_below design place m ≡ Some b → IsFound design.models b
found_below design [] m b f e = subst (IsFound design.models) (same_Some _ _ e) f
found_below design (number ∷ place) m b f e =
    let (n, is_n, rest) = and_then-from (model_below design place) (model_placed design m number) b e in
    let p : Places design m number n = places design m number n is_n in
    found_below design place n b (found_again design.models p.line.model n p.is_found) rest

found_at : (design : Design) (place : Place) (b : Model) → model_at design place ≡ Some b → IsFound design.models b
found_at design place b e =
    let (m, is_m, rest) = and_then-from (model_below design place) (main_model design) b e in
    found_below design place m b (found_first design.models m is_m) rest

step : (design : Design) (a : Model) (number : ℕ) (b : Model) → IsFound design.models a → Places design a number b → HasSubcktOf design.models a.name b.name
step design a number b f p = record {
  model = a;
  is_model = f;
  subckt = p.line;
  is_line = contains_from a.subckts p.line (in_got a.subckts number p.line p.is_line);
  names_other = sym (model_of_name design.models p.line.model b p.is_found).1;
}

leads : (design : Design) (number : ℕ) (place : Place) (a b : Model) → IsFound design.models a → model_below design (number ∷ place) a ≡ Some b → (names : List (List ℕ)) × Leads design.models a.name names b.name
leads design number [] a b f e =
    let (n, is_n, rest) = and_then-from (model_below design []) (model_placed design a number) b e in
    let p : Places design a number n = places design a number n is_n in
    ([], subst (λ (v : Model). HasSubcktOf design.models a.name v.name) (same_Some _ _ rest) (step design a number n f p))
leads design number (next ∷ place) a b f e =
    let (n, is_n, rest) = and_then-from (model_below design (next ∷ place)) (model_placed design a number) b e in
    let p : Places design a number n = places design a number n is_n in
    let (names, way) = leads design next place n b (found_again design.models p.line.model n p.is_found) rest in
    (n.name ∷ names, (step design a number n f p, way))

pub not_recursive : FaultlessAreNotRecursive
not_recursive design faultless outer [] a b some is_a is_b same = some refl
not_recursive design faultless outer (number ∷ inner) a b some is_a is_b same =
    let below : model_below design (number ∷ inner) a ≡ Some b = ap (option_and_then (model_below design (number ∷ inner))) (sym is_a) ∙ sym (model_at-append design outer (number ∷ inner)) ∙ is_b in
    let (names, way) = leads design number inner a b (found_at design outer a is_a) below in
    no_model_is_in_itself design.models faultless a.name names (subst (λ v. Leads design.models a.name names v) (sym same) way)

-- of pins with distinct formals, two of one formal are one
pub one_pin : (pins : List Pin) (p q : Pin) → Distinct (map (λ (pin : Pin). pin.formal) pins) → In p pins → In q pins → p.formal ≡ q.formal → p ≡ q
one_pin [] p q d i j e = absurd i
one_pin (x ∷ xs) p q d (inl a) (inl b) e = a ∙ sym b
one_pin (x ∷ xs) p q d (inl a) (inr b) e = absurd (d.0 (subst (λ v. In v (map (λ (pin : Pin). pin.formal) xs)) (sym e ∙ ap (λ (pin : Pin). pin.formal) a) (in_map (λ (pin : Pin). pin.formal) xs q b)))
one_pin (x ∷ xs) p q d (inr a) (inl b) e = absurd (d.0 (subst (λ v. In v (map (λ (pin : Pin). pin.formal) xs)) (e ∙ ap (λ (pin : Pin). pin.formal) b) (in_map (λ (pin : Pin). pin.formal) xs p a)))
one_pin (x ∷ xs) p q d (inr a) (inr b) e = one_pin xs p q d.1 a b e

pub in_models : (design : Design) (place : Place) (m : Model) → model_at design place ≡ Some m → In m design.models
in_models design place m e = (model_of_name design.models m.name m (found_at design place m e)).0

pub formals_once : FaultlessNameFormalsOnce
formals_once design faultless place number model line p q is_model is_line p_in q_in same =
    let d = formals_are_distinct design.models faultless model line (contains_from design.models model (in_models design place model is_model)) (contains_from model.subckts line (in_got model.subckts number line is_line)) in
    ap (λ (pin : Pin). pin.actual) (one_pin line.pins p q (distinct_from (map (λ (pin : Pin). pin.formal) line.pins) d) (in_from line.pins p p_in) (in_from line.pins q q_in) same)

pub is_placed : (o : Option Model) (s : Subckt) → unplaced o s ≡ [] → (placed : Model) × (o ≡ Some placed)
is_placed None s e = absurd (cc)
is_placed (Some m) s e = (m, refl)

pub named_in : (ports : List Port) (name : List ℕ) → list_any (has_name name) ports ≡ true → In name (port_names ports)
named_in [] name e = absurd (true≢false (sym e))
named_in (q ∷ qs) name e = by (bytes_eq q.name name) refl (λ t. named_in qs name t) e
  where
    by : (b : Bool) → bytes_eq q.name name ≡ b → (list_any (has_name name) qs ≡ true → In name (port_names qs)) → (b || list_any (has_name name) qs) ≡ true → In name (port_names (q ∷ qs))
    by true h later t = inl (sym ((bytes_eq-Decides q.name name).0 h))
    by false h later t = inr (later t)

pub in_names_append : (ps qs : List Port) (name : List ℕ) → In name (port_names (ps ++ qs)) → In name (port_names ps) ⊎ In name (port_names qs)
in_names_append [] qs name i = inr i
in_names_append (p ∷ ps) qs name (inl e) = inl (inl e)
in_names_append (p ∷ ps) qs name (inr i) = elim (in_names_append ps qs name i) as (λ _. In name (port_names (p ∷ ps)) ⊎ In name (port_names qs)) [ inl a ↦ inl (inr a) | inr b ↦ inr b ]

has_port : (m : Model) (name : List ℕ) → lacks_port name m ≡ false → In name (model_names m)
has_port m name e = by (has_input name m) (has_output name m) refl refl e
  where
    first : In name (port_names m.ins ++ port_names m.outs ++ port_names m.clocks) → In name (model_names m)
    first i = in_left _ _ name (in_left _ _ name (in_left (port_names m.ins ++ port_names m.outs ++ port_names m.clocks) _ name i))

    of_input : In name (port_names m.ins) ⊎ In name (port_names m.clocks) → In name (model_names m)
    of_input (inl i) = first (in_left (port_names m.ins ++ port_names m.outs) (port_names m.clocks) name (in_left (port_names m.ins) (port_names m.outs) name i))
    of_input (inr i) = first (in_right (port_names m.ins ++ port_names m.outs) (port_names m.clocks) name i)

    by : (a b : Bool) → has_input name m ≡ a → has_output name m ≡ b → not (a || b) ≡ false → In name (model_names m)
    by true b h k t = of_input (in_names_append m.ins m.clocks name (named_in (m.ins ++ m.clocks) name h))
    by false true h k t = first (in_left (port_names m.ins ++ port_names m.outs) (port_names m.clocks) name (in_right (port_names m.ins) (port_names m.outs) name (named_in m.outs name k)))
    by false false h k t = absurd (true≢false t)

pub not_portless : (o : Option Model) (line : ℕ) (pins : List Pin) (pin : Pin) → filter_map (formal_if (is_portless o) line) pins ≡ [] → In pin pins → is_portless o pin ≡ false
not_portless o line pins pin e i = false_from_ne_true (is_portless o pin) (λ h. subst (λ v. In (at_line line pin.formal) v) e (filtered_in (formal_if (is_portless o) line) pins pin (at_line line pin.formal) i (ap (λ b. then_some b (at_line line pin.formal)) h)))

-- a kind of fault gives no word
pub clean_of : (models : List Model) → AreFaultless models → (kind : FaultKind) (m : Model) → In m models → words_at_fault kind models m ≡ []
clean_of models a kind m i = none_of (words_at_fault kind models) models m ((no_model_fault models (some_models models a)).0 a.no_fault kind) i

-- the model of a line is there, and has a port of the name that a pin gives
pub pin_port : (models : List Model) → AreFaultless models → (m : Model) (s : Subckt) (pin : Pin) → In m models → In s m.subckts → In pin s.pins → (placed : Model) × (model_named models s.model ≡ Some placed) × (lacks_port pin.formal placed ≡ false)
pin_port models a m s pin i j k =
    let has_model : missing_model models s ≡ [] = none_of (missing_model models) m.subckts s (clean_of models a NoSuchModel m i) j in
    let has_ports : unknown_formals models s ≡ [] = none_of (unknown_formals models) m.subckts s (clean_of models a NoSuchPin m i) j in
    let (placed, is_found) = is_placed (model_named models s.model) s has_model in
    (placed, is_found, sym (ap (λ o. is_portless o pin) is_found) ∙ not_portless (model_named models s.model) s.line s.pins pin has_ports k)

-- a pin is known
pub known : (models : List Model) → AreFaultless models → (m : Model) (s : Subckt) (pin : Pin) → In m models → In s m.subckts → In pin s.pins
    → (is_input_pin (model_named models s.model) pin ≡ true) ⊎ (is_output_pin (model_named models s.model) pin ≡ true)
known models a m s pin i j k =
    let (placed, is_found, has) = pin_port models a m s pin i j k in
    by (has_input pin.formal placed) (has_output pin.formal placed) (ap (λ o. is_input_pin o pin) is_found) (ap (λ o. is_output_pin o pin) is_found) has
  where
    by : (x y : Bool) → is_input_pin (model_named models s.model) pin ≡ x → is_output_pin (model_named models s.model) pin ≡ y → not (x || y) ≡ false → (is_input_pin (model_named models s.model) pin ≡ true) ⊎ (is_output_pin (model_named models s.model) pin ≡ true)
    by true y e f n = inl e
    by false true e f n = inr f
    by false false e f n = absurd (true≢false n)

pub formals_named : (design : Design) → AreFaultless design.models → (outer inner : Net) → IsPinned design outer inner → IsNet design inner
formals_named design a outer inner h =
    let (placed, is_found, has) = pin_port design.models a h.model h.line h.pin (in_models design outer.place h.model h.has_model) (in_got h.model.subckts h.number h.line h.has_line) (in_from h.line.pins h.pin h.has_pin) in
    let there : model_at design inner.place ≡ Some placed =
    ap (model_at design) h.is_deeper ∙ model_at-append design outer.place (h.number ∷ []) ∙ ap (option_and_then (model_below design (h.number ∷ []))) h.has_model
    ∙ ap (λ o. option_and_then (model_below design []) (option_and_then (λ (l : Subckt). model_named design.models l.model) o)) h.has_line ∙ ap (option_and_then (model_below design [])) is_found in
    (placed, there, contains_from (model_names placed) inner.name (subst (λ v. In v (model_names placed)) (sym h.is_formal) (has_port placed h.pin.formal has)))

-- where no line is that of the fault, none reads or drives a clock net
Unused : Design → ℕ → ℕ → Type 0
Unused design line position = (net : Net) → ¬ IsClockUse design line position net

read_here : (design : Design) → ((line : ℕ) (word : List ℕ) → ¬ IsClockRead design line word) → (line : ℕ) → ((l p : ℕ) → l < line → Unused design l p) → (position : ℕ) → ((p : ℕ) → p < position → Unused design line p) → Unused design line position
unfolding Unused
read_here design none line lines position words net used = none line net.name (record { position = position; net = net; is_use = used; is_earliest = first; is_word = refl })
  where
    first : (l p : ℕ) (other : Net) → IsClockUse design l p other → (line < l) ⊎ ((line ≡ l) × (position ≤ p))
    first l p other u = elim (cases_order line l) as (λ _. (line < l) ⊎ ((line ≡ l) × (position ≤ p))) [
      | inl same ↦ elim (cases_lt p position) as (λ _. (line < l) ⊎ ((line ≡ l) × (position ≤ p))) [
        | inl before ↦ absurd (words p before other (subst (λ v. IsClockUse design v p other) (sym same) u))
        | inr after ↦ inr (same, after)
      ]
      | inr (inl less) ↦ inl less
      | inr (inr more) ↦ absurd (lines l p more other u)
    ]

words_of_line : (design : Design) → ((line : ℕ) (word : List ℕ) → ¬ IsClockRead design line word) → (line : ℕ) → ((l p : ℕ) → l < line → Unused design l p) → (bound p : ℕ) → p < bound → Unused design line p
words_of_line design none line lines zero p less = absurd (omega arith)
words_of_line design none line lines (suc bound) p less = read_here design none line lines p (λ q before. words_of_line design none line lines bound q (omega arith))

all_lines : (design : Design) → ((line : ℕ) (word : List ℕ) → ¬ IsClockRead design line word) → (bound l p : ℕ) → l < bound → Unused design l p
all_lines design none zero l p less = absurd (omega arith)
all_lines design none (suc bound) l p less = words_of_line design none l (λ m q before. all_lines design none bound m q (omega arith)) (suc p) p (omega arith)

pub wired : FaultlessAreWired
unfolding Unused
wired design faultless clean = record {
  formals_named = formals_named design faultless;
  formals_once = formals_once design faultless;
  clocks_unread = λ line position net. all_lines design (λ l w r. clean (fault_on ClockRead l w) (clock_read (λ m v t. clean (fault_on TwoClocks m v) (two_clocks t)) r)) (suc line) line position (omega arith) net;
}
