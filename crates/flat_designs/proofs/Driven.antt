-- Each net has a driver.
use Rattle.std.proofs.Common.{◌≡◌, refl, sym, ap, subst, ◌∙◌, ℕ, ◌⊎◌, inl, inr, List, [], ◌∷◌, ◌++◌, map, Bool, true, false, not, ◌||◌, true≢false, slice_get}
use Rattle.std.specs.Prelude.{Some, Option, flat_map, option_to_list}
use Rattle.std.specs.Bool.{then_some}
use Rattle.std.proofs.lemmas.Option.{none-some, same_Some}
use Rattle.netlist_core.specs.declared.model.Port.{Port}
use Rattle.netlist_core.specs.declared.model.Pin.{Pin}
use Rattle.netlist_core.specs.declared.model.Cover.{Cover}
use Rattle.netlist_core.specs.declared.model.LatchRow.{LatchRow}
use Rattle.netlist_core.specs.declared.model.Subckt.{Subckt}
use Rattle.netlist_core.specs.declared.model.Model.{Model}
use Rattle.netlist_core.specs.Names.{Name, port_names, at_line, is_named, model_named}
use Rattle.netlist_meaning.specs.Nets.{model_names}
use Rattle.netlist_rules.specs.declared.fault.FaultKind.TheVariants.{Undriven}
use Rattle.netlist_rules.specs.Drivers.{is_input_pin, is_output_pin, is_unknown_pin, stands_earlier, firsts_after, inputs_of, cover_output, latch_output, cover_readings, latch_readings, actual_if, actuals_on, actuals, drivers_of, readings_of}
use Rattle.netlist_rules.specs.ModelFaults.{AreFaultless, unless_named}
use Rattle.lists.proofs.Members.{In, in_left, in_right, in_parts, in_mapped, in_map, in_flat, in_flattened, in_filtered, filtered_in, in_got, got_from}
use Rattle.flat_designs.proofs.Faultless.{named_in, clean_of, known}
use Rattle.flat_designs.proofs.OneDriver.{Local}
use Rattle.flat_designs.proofs.OneDriver.Local.{by_input, by_cover, by_latch, by_output}
use Rattle.netlist_rules.proofs.Faultless.{port_name}

pub names_left : (ps qs : List Port) (name : List ℕ) → In name (port_names ps) → In name (port_names (ps ++ qs))
names_left [] qs name i = absurd i
names_left (p ∷ ps) qs name (inl e) = inl e
names_left (p ∷ ps) qs name (inr i) = inr (names_left ps qs name i)

pub names_right : (ps qs : List Port) (name : List ℕ) → In name (port_names qs) → In name (port_names (ps ++ qs))
names_right [] qs name i = i
names_right (p ∷ ps) qs name i = inr (names_right ps qs name i)

first_is : (before ports : List Port) (p : Port) → In p (firsts_after before ports) → In p ports
first_is before [] p i = i
first_is before (x ∷ xs) p i = by (stands_earlier before x xs) i (λ j. first_is (x ∷ before) xs p j)
  where
    by : (b : Bool) → In p (option_to_list (then_some (not b) x) ++ firsts_after (x ∷ before) xs) → (In p (firsts_after (x ∷ before) xs) → In p xs) → In p (x ∷ xs)
    by true j later = inr (later j)
    by false (inl e) later = inl e
    by false (inr j) later = inr (later j)

pin_of_port : (o : Option Model) (test : Option Model → Pin → Bool) (line : ℕ) (pin : Pin) (p : Port) → actual_if (test o) line pin ≡ Some p → (test o pin ≡ true) × (p ≡ at_line line pin.actual)
pin_of_port o test line pin p e = by (test o pin) refl e
  where
    by : (b : Bool) → test o pin ≡ b → then_some b (at_line line pin.actual) ≡ Some p → (test o pin ≡ true) × (p ≡ at_line line pin.actual)
    by true h f = (h, sym (same_Some _ _ f))
    by false h f = absurd (none-some p f)

record IsActual (models : List Model) (m : Model) (test : Option Model → Pin → Bool) (name : List ℕ) : Type 0 where
  pub number : ℕ
  pub line : Subckt
  pub pin : Pin
  pub is_line : slice_get m.subckts number ≡ Some line
  pub is_pin : In pin line.pins
  pub passes : test (model_named models line.model) pin ≡ true
  pub is_name : pin.actual ≡ name

is_actual : (models : List Model) (m : Model) (test : Option Model → Pin → Bool) (p : Port) → In p (actuals models test m) → IsActual models m test p.name
is_actual models m test p i =
    let (s, j, k) = in_flattened (actuals_on models test) m.subckts p i in
    let (pin, x, e) = in_filtered (actual_if (test (model_named models s.model)) s.line) s.pins p k in
    let (number, is_line) = got_from m.subckts s j in
    let (passes, same) = pin_of_port (model_named models s.model) test s.line pin p e in
    record { number = number; line = s; pin = pin; is_line = is_line; is_pin = x; passes = passes; is_name = sym (ap port_name same) }

unknown_not : (a b : Bool) → not (a || b) ≡ true → (a ≡ true) ⊎ (b ≡ true) → ⊥
unknown_not true b e (inl f) = true≢false (sym e)
unknown_not true b e (inr f) = true≢false (sym e)
unknown_not false b e (inl f) = true≢false (sym f)
unknown_not false true e (inr f) = true≢false (sym e)
unknown_not false false e (inr f) = true≢false (sym f)

-- a driver's name has a driver
driver_local : (models : List Model) → AreFaultless models → (m : Model) → In m models → (p : Port) → In p (drivers_of models m ++ actuals models is_unknown_pin m) → Local models m p.name
driver_local models a m i p j = elim (in_parts (drivers_of models m) (actuals models is_unknown_pin m) p j) as (λ _. Local models m p.name) [
  | inl d ↦ of_driver d
  | inr u ↦ (let r : IsActual models m is_unknown_pin p.name = is_actual models m is_unknown_pin p u in
      absurd (unknown_not (is_input_pin (model_named models r.line.model) r.pin) (is_output_pin (model_named models r.line.model) r.pin) r.passes (known models a m r.line r.pin i (in_got m.subckts r.number r.line r.is_line) r.is_pin)))
]
  where
    of_input : In p (inputs_of m) → Local models m p.name
    of_input x = by_input (in_map port_name (m.ins ++ m.clocks) p (first_is [] (m.ins ++ m.clocks) p x))

    of_cover : In p (map cover_output m.covers) → Local models m p.name
    of_cover x = let (c, k, e) = in_mapped cover_output m.covers p x in let (n, g) = got_from m.covers c k in by_cover n c g (sym (ap port_name e))

    of_latch : In p (map latch_output m.latches) → Local models m p.name
    of_latch x = let (c, k, e) = in_mapped latch_output m.latches p x in let (n, g) = got_from m.latches c k in by_latch n c g (sym (ap port_name e))

    of_actual : In p (actuals models is_output_pin m) → Local models m p.name
    of_actual x = let r : IsActual models m is_output_pin p.name = is_actual models m is_output_pin p x in by_output r.number r.line r.pin r.is_line r.is_pin r.passes r.is_name

    of_driver : In p (drivers_of models m) → Local models m p.name
    of_driver x = elim (in_parts (inputs_of m ++ map cover_output m.covers ++ map latch_output m.latches) (actuals models is_output_pin m) p x) as (λ _. Local models m p.name) [
      | inr y ↦ of_actual y
      | inl y ↦ elim (in_parts (inputs_of m ++ map cover_output m.covers) (map latch_output m.latches) p y) as (λ _. Local models m p.name) [
        | inr z ↦ of_latch z
        | inl z ↦ elim (in_parts (inputs_of m) (map cover_output m.covers) p z) as (λ _. Local models m p.name) [ inl u ↦ of_input u | inr u ↦ of_cover u ]
      ]
    ]

-- so has a name that is read
reading_local : (models : List Model) → AreFaultless models → (m : Model) → In m models → (r : Port) → In r (readings_of models m) → Local models m r.name
reading_local models a m i r j =
    let name : In r.name (port_names drivers) = named_in drivers r.name (by (is_named drivers r.name) refl) in
    let (p, k, e) = in_mapped port_name drivers r.name name in
    subst (Local models m) (sym e) (driver_local models a m i p k)
  where
    drivers : List Port
    drivers = drivers_of models m ++ actuals models is_unknown_pin m

    by : (b : Bool) → is_named (drivers_of models m ++ actuals models is_unknown_pin m) r.name ≡ b → is_named (drivers_of models m ++ actuals models is_unknown_pin m) r.name ≡ true
    by true h = h
    by false h = absurd (subst (λ v. In r v) (clean_of models a Undriven m i) (filtered_in (unless_named (drivers_of models m ++ actuals models is_unknown_pin m)) (readings_of models m) r r j (ap (λ b. then_some (not b) r) h)))

-- and each name of a model
pub name_local : (models : List Model) → AreFaultless models → (m : Model) → In m models → (name : List ℕ) → In name (model_names m) → Local models m name
name_local models a m i name x = elim (in_parts (port_names m.ins ++ port_names m.outs ++ port_names m.clocks ++ covers ++ latches) pins name x) as (λ _. Local models m name) [
  | inr y ↦ of_pin y
  | inl y ↦ elim (in_parts (port_names m.ins ++ port_names m.outs ++ port_names m.clocks ++ covers) latches name y) as (λ _. Local models m name) [
    | inr z ↦ of_latch z
    | inl z ↦ elim (in_parts (port_names m.ins ++ port_names m.outs ++ port_names m.clocks) covers name z) as (λ _. Local models m name) [
      | inr u ↦ of_cover u
      | inl u ↦ elim (in_parts (port_names m.ins ++ port_names m.outs) (port_names m.clocks) name u) as (λ _. Local models m name) [
        | inr v ↦ by_input (names_right m.ins m.clocks name v)
        | inl v ↦ elim (in_parts (port_names m.ins) (port_names m.outs) name v) as (λ _. Local models m name) [ inl w ↦ by_input (names_left m.ins m.clocks name w) | inr w ↦ of_output w ]
      ]
    ]
  ]
]
  where
    covers : List Name
    covers = flat_map (λ (c : Cover). c.ins ++ c.out ∷ []) m.covers

    latches : List Name
    latches = flat_map (λ (l : LatchRow). l.input ∷ l.output ∷ option_to_list l.control) m.latches

    pins : List Name
    pins = flat_map (λ (l : Subckt). map (λ (p : Pin). p.actual) l.pins) m.subckts

    read : (r : Port) → In r (readings_of models m) → Local models m r.name
    read r j = reading_local models a m i r j

    of_output : In name (port_names m.outs) → Local models m name
    of_output w = let (q, k, e) = in_mapped port_name m.outs name w in
        subst (Local models m) (sym e) (read q (in_left _ _ q (in_left _ _ q (in_left m.outs _ q k))))

    of_cover : In name (flat_map (λ (c : Cover). c.ins ++ c.out ∷ []) m.covers) → Local models m name
    of_cover w = let (c, k, p) = in_flattened (λ (c : Cover). c.ins ++ c.out ∷ []) m.covers name w in
        elim (in_parts c.ins (c.out ∷ []) name p) as (λ _. Local models m name) [
          | inl z ↦ read (at_line c.line name) (in_left _ _ (at_line c.line name) (in_left _ _ (at_line c.line name) (in_right m.outs _ (at_line c.line name) (in_flat cover_readings m.covers c (at_line c.line name) k (in_map (at_line c.line) c.ins name z)))))
          | inr z ↦ (let (n, g) = got_from m.covers c k in elim z as (λ _. Local models m name) [ inl e ↦ by_cover n c g (sym e) | inr none ↦ absurd none ])
        ]

    latch_read : (l : LatchRow) → In l m.latches → In (at_line l.line name) (latch_readings l) → Local models m name
    latch_read l k z = read (at_line l.line name) (in_left _ _ (at_line l.line name) (in_right (m.outs ++ flat_map cover_readings m.covers) _ (at_line l.line name) (in_flat latch_readings m.latches l (at_line l.line name) k z)))

    of_latch : In name (flat_map (λ (l : LatchRow). l.input ∷ l.output ∷ option_to_list l.control) m.latches) → Local models m name
    of_latch w = let (l, k, p) = in_flattened (λ (l : LatchRow). l.input ∷ l.output ∷ option_to_list l.control) m.latches name w in
        elim p as (λ _. Local models m name) [
          | inl e ↦ latch_read l k (inl (ap (at_line l.line) e))
          | inr q ↦ elim q as (λ _. Local models m name) [
            | inl e ↦ (let (n, g) = got_from m.latches l k in by_latch n l g (sym e))
            | inr c ↦ latch_read l k (inr (in_map (at_line l.line) (option_to_list l.control) name c))
          ]
        ]

    of_pin : In name (flat_map (λ (l : Subckt). map (λ (p : Pin). p.actual) l.pins) m.subckts) → Local models m name
    of_pin w =
        let (s, k, p) = in_flattened (λ (l : Subckt). map (λ (p : Pin). p.actual) l.pins) m.subckts name w in
        let (pin, j, e) = in_mapped (λ (p : Pin). p.actual) s.pins name p in
        let (n, g) = got_from m.subckts s k in
        elim (known models a m s pin i k j) as (λ _. Local models m name) [
          | inl t ↦ read (at_line s.line name) (in_right (m.outs ++ flat_map cover_readings m.covers ++ flat_map latch_readings m.latches) _ (at_line s.line name)
              (in_flat (actuals_on models is_input_pin) m.subckts s (at_line s.line name) k (filtered_in (actual_if (is_input_pin (model_named models s.model)) s.line) s.pins pin (at_line s.line name) j (ap (λ b. then_some b (at_line s.line pin.actual)) t ∙ ap (λ v. Some (at_line s.line v)) (sym e)))))
          | inr t ↦ by_output n s pin g j t (sym e)
        ]
