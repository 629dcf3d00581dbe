-- Along an order there is a valuation.
use Rattle.std.proofs.Common.{◌≡◌, ◌≢◌, refl, sym, ap, subst, ◌∙◌, ℕ, pred, ◌⊎◌, inl, inr, List, [], ◌∷◌, ◌++◌, map, Bool, true, false, cond, ◌||◌, ◌&&◌, ◌==◌, true≢false, length, slice_get, option_and_then}
use Rattle.std.specs.List.{IsDistinct}
use Rattle.std.specs.Prelude.{Some, None, Option, bytes_eq, option_map, unwrap_or, option_to_list, flat_map}
use Rattle.std.specs.Bool.{then_some}
use Rattle.std.proofs.lemmas.Slice.Eq.{bytes_eq-Decides}
use Rattle.std.proofs.lemmas.Bool.Decides.{Decides-eqb}
use Rattle.std.proofs.lemmas.Option.{none-some, same_Some}
use Rattle.std.proofs.lemmas.List.{append_assoc, append-nil}
use Rattle.netlist_core.specs.declared.model.Port.{Port}
use Rattle.netlist_core.specs.declared.model.Pin.{Pin}
use Rattle.netlist_core.specs.declared.model.Subckt.{Subckt}
use Rattle.netlist_core.specs.declared.model.Cover.{Cover}
use Rattle.netlist_core.specs.declared.model.LatchRow.{LatchRow}
use Rattle.netlist_core.specs.declared.model.Model.{Model}
use Rattle.netlist_core.specs.declared.model.Design.{Design}
use Rattle.netlist_core.specs.Names.{Name, port_names}
use Rattle.netlist_meaning.specs.Places.{Place, main_model, main_inputs, model_at}
use Rattle.netlist_meaning.specs.Nets.{Net, net_at, IsNet, Joined, WithoutControl, model_names}
use Rattle.netlist_meaning.specs.Nets.WithoutControl.{none, kept, left_out}
use Rattle.netlist_meaning.specs.Nets.Joined.{by_pin, itself, reversed, followed}
use Rattle.netlist_rules.specs.Clocks.{HasNoClockFault}
use Rattle.netlist_meaning.specs.CoverValue.{cover_value}
use Rattle.netlist_meaning.specs.Valuation.{LatchState}
use Rattle.lists.proofs.Names.{bytes_eq-same}
use Rattle.netlist_meaning.proofs.Names.{and_then-from}
use Rattle.netlist_rules.specs.declared.fault.FaultKind.TheVariants.{DuplicatePort}
use Rattle.netlist_rules.specs.Drivers.{stands_earlier, repeats_after}
use Rattle.netlist_rules.specs.ModelFaults.{AreFaultless, doubles_after, is_output_before, is_input_by_then, duplicate_ports}
use Rattle.lists.proofs.Members.{is_distinct, In, in_from, contains_from, in_left, in_right, is_in, in_flat, in_map, Distinct, in_got, got_from}
use Rattle.flat_designs.specs.Faultless.{FaultlessHaveDistinctPorts}
use Rattle.flat_designs.specs.OneDriver.{Driver, Drives}
use Rattle.flat_designs.specs.OneDriver.Driver.{port, cover, latch}
use Rattle.flat_designs.specs.OneDriver.Drives.{of_port, of_cover, of_latch}
use Rattle.flat_designs.specs.Order.{CoverAt, IsCoverAt, IsCoverOrder, OrderedHaveAValuation}
use Rattle.flat_designs.proofs.Faultless.{in_models, formals_named, clean_of}
use Rattle.flat_designs.proofs.Local.{Apart, no_repeat}
use Rattle.flat_designs.proofs.OneDriver.{at_most_one_driver}
use Rattle.flat_designs.proofs.Driven.{names_left}
use Rattle.flat_designs.proofs.Sources.{have_drivers}
use Rattle.lists.proofs.Bools.{or_false_left as first_of}
use Rattle.lists.proofs.Appends.{append_nil_left as none_left, append_nil_right as none_right}
use Rattle.flat_designs.proofs.Ordered.{same_map, in_covers}
use Rattle.flat_designs.proofs.NoLoop.{split_at}
use Rattle.std.proofs.lemmas.Bool.{and_parts as both_true, false_from_ne_true}
use Rattle.netlist_rules.proofs.Faultless.{none_kept}
use Rattle.std.proofs.Math.Bool.{or-false as or_nil}

-- the driver of a net
record DrivenBy (design : Design) (net : Net) (d : Driver) : Type 0 where
  pub source : Net
  pub drives : Drives design d source
  pub joined : Joined design source net

same_driver : (design : Design) → AreFaultless design.models → (a b : Net) (d e : Driver) → Joined design a b → DrivenBy design a d → DrivenBy design b e → d ≡ e
same_driver design f a b d e j x y = at_most_one_driver design f x.source y.source d e (followed x.joined (followed j (reversed y.joined))) x.drives y.drives

data Pick (design : Design) (net : Net) : Type 0 where
  driven : (d : Driver) → DrivenBy design net d → Pick design net
  no_net : ¬ IsNet design net → Pick design net

pick : (design : Design) → AreFaultless design.models → (place : Place) (name : Name) → Pick design (net_at place name)
pick design f place name = by (model_at design place) refl
  where
    by : (o : Option Model) → model_at design place ≡ o → Pick design (net_at place name)
    by None e = no_net (λ n. none-some n.0 (sym e ∙ n.1))
    by (Some m) e = elim (is_in name (model_names m)) as (λ _. Pick design (net_at place name)) [
      | inl i ↦ (let (d, s, x, j) = have_drivers design f (net_at place name) (m, e, contains_from (model_names m) name i) in driven d (record { source = s; drives = x; joined = j }))
      | inr away ↦ no_net (λ n. away (subst (λ (v : Model). In name (model_names v)) (same_Some _ _ (sym n.1 ∙ e)) (in_from (model_names n.0) name n.2)))
    ]

-- values of covers that are known
record Known : Type 0 where
  pub at : CoverAt
  pub bit : Bool

is_key : Known → Place → ℕ → Bool
is_key k p n = bytes_eq k.at.place p && (k.at.number == n)

value_of : List Known → Place → ℕ → Bool
value_of [] p n = false
value_of (k ∷ ks) p n = cond (is_key k p n) k.bit (value_of ks p n)

has_key : List Known → Place → ℕ → Bool
has_key [] p n = false
has_key (k ∷ ks) p n = is_key k p n || has_key ks p n

input_value : List Name → List Bool → Name → Bool
input_value [] bs name = false
input_value (n ∷ ns) [] name = false
input_value (n ∷ ns) (b ∷ bs) name = cond (bytes_eq n name) b (input_value ns bs name)

-- a design, with what gives its bits
record Given (design : Design) : Type 0 where
  pub faultless : AreFaultless design.models
  pub clean : HasNoClockFault design
  pub names : List Name
  pub inputs : List Bool
  pub state : LatchState

driver_value : {design : Design} → Given design → List Known → Driver → Bool
driver_value g ks (port name) = input_value g.names g.inputs name
driver_value g ks (cover p n) = value_of ks p n
driver_value g ks (latch p n) = g.state p n

picked : {design : Design} {net : Net} → Given design → List Known → Pick design net → Bool
picked g ks (driven d x) = driver_value g ks d
picked g ks (no_net n) = false

bit_of : {design : Design} → Given design → List Known → Place → Name → Bool
bit_of {design} g ks place name = picked g ks (pick design g.faultless place name)

bit_is : (design : Design) (g : Given design) (ks : List Known) (net : Net) → IsNet design net → (d : Driver) → DrivenBy design net d → bit_of g ks net.place net.name ≡ driver_value g ks d
unfolding bit_of picked
bit_is design g ks net is_net d x = by (pick design g.faultless net.place net.name)
  where
    by : (p : Pick design (net_at net.place net.name)) → picked g ks p ≡ driver_value g ks d
    by (driven e y) = ap (driver_value g ks) (same_driver design g.faultless net net e d itself y x)
    by (no_net n) = absurd (n is_net)

-- one cover more
step_with : {design : Design} → Given design → List Known → CoverAt → Option Cover → List Known
step_with g ks at None = []
step_with g ks at (Some c) = (record { at = at; bit = cover_value c.rows c.on (map (bit_of g ks at.place) c.ins) }) ∷ []

cover_found : Design → CoverAt → Option Cover
cover_found design at = option_and_then (λ (m : Model). slice_get m.covers at.number) (model_at design at.place)

run : {design : Design} → Given design → List Known → List CoverAt → List Known
run g ks [] = ks
run {design} g ks (at ∷ ats) = run g (ks ++ step_with g ks at (cover_found design at)) ats

run_append : (design : Design) (g : Given design) (ks : List Known) (xs ys : List CoverAt) → run g ks (xs ++ ys) ≡ run g (run g ks xs) ys
unfolding run
run_append design g ks [] ys = refl
run_append design g ks (x ∷ xs) ys = run_append design g (ks ++ step_with g ks x (cover_found design x)) xs ys

run_more : (design : Design) (g : Given design) (ks : List Known) (xs : List CoverAt) → (more : List Known) × (run g ks xs ≡ ks ++ more)
unfolding run
run_more design g ks [] = ([], sym (append-nil ks))
run_more design g ks (x ∷ xs) =
    let (more, e) = run_more design g (ks ++ step_with g ks x (cover_found design x)) xs in
    (step_with g ks x (cover_found design x) ++ more, e ∙ append_assoc ks (step_with g ks x (cover_found design x)) more)

value_kept : (ks more : List Known) (p : Place) (n : ℕ) → has_key ks p n ≡ true → value_of (ks ++ more) p n ≡ value_of ks p n
unfolding value_of has_key
value_kept [] more p n e = absurd (true≢false (sym e))
value_kept (k ∷ ks) more p n e = by (is_key k p n) e (λ h. value_kept ks more p n h)
  where
    by : (b : Bool) → (b || has_key ks p n) ≡ true → (has_key ks p n ≡ true → value_of (ks ++ more) p n ≡ value_of ks p n) → cond b k.bit (value_of (ks ++ more) p n) ≡ cond b k.bit (value_of ks p n)
    by true h later = refl
    by false h later = later h

key_kept : (ks more : List Known) (p : Place) (n : ℕ) → has_key ks p n ≡ true → has_key (ks ++ more) p n ≡ true
unfolding has_key
key_kept [] more p n e = absurd (true≢false (sym e))
key_kept (k ∷ ks) more p n e = by (is_key k p n) e (λ h. key_kept ks more p n h)
  where
    by : (b : Bool) → (b || has_key ks p n) ≡ true → (has_key ks p n ≡ true → has_key (ks ++ more) p n ≡ true) → (b || has_key (ks ++ more) p n) ≡ true
    by true h later = refl
    by false h later = later h

value_new : (ks : List Known) (k : Known) (more : List Known) (p : Place) (n : ℕ) → has_key ks p n ≡ false → is_key k p n ≡ true → value_of ((ks ++ k ∷ []) ++ more) p n ≡ k.bit
unfolding value_of has_key
value_new [] k more p n e h = ap (λ b. cond b k.bit (value_of more p n)) h
value_new (x ∷ ks) k more p n e h = by (is_key x p n) e (λ f. value_new ks k more p n f h)
  where
    by : (b : Bool) → (b || has_key ks p n) ≡ false → (has_key ks p n ≡ false → value_of ((ks ++ k ∷ []) ++ more) p n ≡ k.bit) → cond b x.bit (value_of ((ks ++ k ∷ []) ++ more) p n) ≡ k.bit
    by true f later = absurd (true≢false f)
    by false f later = later f

key_new : (ks : List Known) (k : Known) (p : Place) (n : ℕ) → is_key k p n ≡ true → has_key (ks ++ k ∷ []) p n ≡ true
unfolding has_key
key_new [] k p n h = ap (λ b. b || false) h
key_new (x ∷ ks) k p n h = by (is_key x p n) (key_new ks k p n h)
  where
    by : (b : Bool) → has_key (ks ++ k ∷ []) p n ≡ true → (b || has_key (ks ++ k ∷ []) p n) ≡ true
    by true f = refl
    by false f = f

own_key : (at : CoverAt) (bit : Bool) → is_key (record { at = at; bit = bit }) at.place at.number ≡ true
unfolding is_key
own_key at bit = ap (λ b. b && (at.number == at.number)) (bytes_eq-same at.place) ∙ (Decides-eqb at.number at.number).1 refl

key_is : (k : Known) (at : CoverAt) → is_key k at.place at.number ≡ true → k.at ≡ at
unfolding is_key
key_is k at e =
    let (s, t) = both_true (bytes_eq k.at.place at.place) (k.at.number == at.number) e in
    same_cover k.at at ((bytes_eq-Decides k.at.place at.place).0 s) ((Decides-eqb k.at.number at.number).0 t)
  where
    same_cover : (x y : CoverAt) → x.place ≡ y.place → x.number ≡ y.number → x ≡ y
    same_cover x y a b = ap (λ p. (let c : CoverAt = record { place = p; number = x.number } in c)) a ∙ ap (λ n. (let c : CoverAt = record { place = y.place; number = n } in c)) b

key_parts : (ks more : List Known) (p : Place) (n : ℕ) → has_key (ks ++ more) p n ≡ true → (has_key ks p n ≡ true) ⊎ (has_key more p n ≡ true)
unfolding has_key
key_parts [] more p n e = inr e
key_parts (k ∷ ks) more p n e = by (is_key k p n) e (λ h. key_parts ks more p n h)
  where
    by : (b : Bool) → (b || has_key (ks ++ more) p n) ≡ true → (has_key (ks ++ more) p n ≡ true → (has_key ks p n ≡ true) ⊎ (has_key more p n ≡ true)) → ((b || has_key ks p n) ≡ true) ⊎ (has_key more p n ≡ true)
    by true h later = inl refl
    by false h later = later h

step_key : (design : Design) (g : Given design) (ks : List Known) (x at : CoverAt) (o : Option Cover) → has_key (step_with g ks x o) at.place at.number ≡ true → at ≡ x
unfolding step_with has_key
step_key design g ks x at None e = absurd (true≢false (sym e))
step_key design g ks x at (Some c) e = sym (key_is (record { at = x; bit = cover_value c.rows c.on (map (bit_of g ks x.place) c.ins) }) at (sym (or_nil (is_key (record { at = x; bit = cover_value c.rows c.on (map (bit_of g ks x.place) c.ins) }) at.place at.number)) ∙ e))

keys_in : (design : Design) (g : Given design) (ks : List Known) (xs : List CoverAt) (at : CoverAt) → has_key (run g ks xs) at.place at.number ≡ true → (has_key ks at.place at.number ≡ true) ⊎ In at xs
unfolding run
keys_in design g ks [] at e = inl e
keys_in design g ks (x ∷ xs) at e = elim (keys_in design g (ks ++ step_with g ks x (cover_found design x)) xs at e) as (λ _. (has_key ks at.place at.number ≡ true) ⊎ In at (x ∷ xs)) [
  | inl h ↦ elim (key_parts ks (step_with g ks x (cover_found design x)) at.place at.number h) as (λ _. (has_key ks at.place at.number ≡ true) ⊎ In at (x ∷ xs)) [ inl k ↦ inl k | inr s ↦ inr (inl (step_key design g ks x at (cover_found design x) s)) ]
  | inr i ↦ inr (inr i)
]

not_key : (design : Design) (g : Given design) (front : List CoverAt) (at : CoverAt) → ¬ In at front → has_key (run g [] front) at.place at.number ≡ false
unfolding has_key
not_key design g front at away = false_from_ne_true (has_key (run g [] front) at.place at.number) (λ h. elim (keys_in design g [] front at h) as (λ _. ⊥) [ inl f ↦ true≢false (sym f) | inr i ↦ away i ])

-- the values when a cover is reached, and then
record Reached (design : Design) (g : Given design) (order front : List CoverAt) (at : CoverAt) (c : Cover) : Type 0 where
  pub more : List Known
  pub all : run g [] order ≡ (run g [] front ++ record { at = at; bit = cover_value c.rows c.on (map (bit_of g (run g [] front) at.place) c.ins) } ∷ []) ++ more

reached : (design : Design) (g : Given design) (order front back : List CoverAt) (at : CoverAt) (c : Cover) → order ≡ front ++ at ∷ back → cover_found design at ≡ Some c → Reached design g order front at c
unfolding run step_with
reached design g order front back at c e found =
    let f : List Known = run g [] front in
    let (more, m) = run_more design g (f ++ step_with g f at (cover_found design at)) back in
    record { more = more; all = ap (run g []) e ∙ run_append design g [] front (at ∷ back) ∙ m ∙ ap (λ o. (run g [] front ++ step_with g (run g [] front) at o) ++ more) found }

found_of : (design : Design) (at : CoverAt) (c : Cover) → IsCoverAt design at c → cover_found design at ≡ Some c
unfolding cover_found
found_of design at c i = ap (option_and_then (λ (m : Model). slice_get m.covers at.number)) i.has_model ∙ i.has_cover

key_there : (design : Design) (g : Given design) (front : List CoverAt) (at : CoverAt) (c : Cover) → In at front → IsCoverAt design at c → has_key (run g [] front) at.place at.number ≡ true
key_there design g front at c i is_c =
    let (f, b, e) = split_at front at i in
    let r : Reached design g front f at c = reached design g front f b at c e (found_of design at c is_c) in
    let bit : Bool = cover_value c.rows c.on (map (bit_of g (run g [] f) at.place) c.ins) in
    ap (λ ks. has_key ks at.place at.number) r.all ∙ key_kept (run g [] f ++ record { at = at; bit = bit } ∷ []) r.more at.place at.number (key_new (run g [] f) (record { at = at; bit = bit }) at.place at.number (own_key at bit))

driven_of : (design : Design) → AreFaultless design.models → (net : Net) → IsNet design net → (d : Driver) × DrivenBy design net d
driven_of design f net n = let (d, s, x, j) = have_drivers design f net n in (d, record { source = s; drives = x; joined = j })

-- a driver's value does not change after a cover that reads its net is reached
same_later : (design : Design) (g : Given design) (order : List CoverAt) (o : IsCoverOrder design order) (front back : List CoverAt) (at : CoverAt) (c : Cover) (input : Name) (more : List Known) → order ≡ front ++ at ∷ back → IsCoverAt design at c → In input c.ins
    → (d : Driver) (source : Net) → Drives design d source → Joined design source (net_at at.place input) → driver_value g (run g [] front) d ≡ driver_value g (run g [] front ++ more) d
unfolding driver_value
same_later design g order o front back at c input more e is_c i d source (of_port a b) j = refl
same_later design g order o front back at c input more e is_c i d source (of_latch a b) j = refl
same_later design g order o front back at c input more e is_c i d source (of_cover {place = p} {model = m} {number = n} {c = r} a b) j =
    let is_r : IsCoverAt design (record { place = p; number = n }) r = record { model = m; has_model = a; has_cover = b } in
    let there : In (record { place = p; number = n }) front = in_from front (record { place = p; number = n }) (o.after front back at (record { place = p; number = n }) c r input e is_c (contains_from c.ins input i) is_r j) in
    sym (value_kept (run g [] front) more p n (key_there design g front (record { place = p; number = n }) r there is_r))

cover_holds : (design : Design) (g : Given design) (order : List CoverAt) → IsCoverOrder design order → (at : CoverAt) (c : Cover) → IsCoverAt design at c
    → value_of (run g [] order) at.place at.number ≡ cover_value c.rows c.on (map (bit_of g (run g [] order) at.place) c.ins)
cover_holds design g order o at c is_c =
    let (front, back, e) = split_at order at (in_from order at (o.all at c is_c)) in
    let r : Reached design g order front at c = reached design g order front back at c e (found_of design at c is_c) in
    let bit : Bool = cover_value c.rows c.on (map (bit_of g (run g [] front) at.place) c.ins) in
    let whole : run g [] order ≡ run g [] front ++ (record { at = at; bit = bit } ∷ r.more) = r.all ∙ append_assoc (run g [] front) (record { at = at; bit = bit } ∷ []) r.more in
    ap (λ ks. value_of ks at.place at.number) r.all
    ∙ value_new (run g [] front) (record { at = at; bit = bit }) r.more at.place at.number (not_key design g front at (λ i. o.once front back at e (contains_from front at i))) (own_key at bit)
    ∙ ap (cover_value c.rows c.on) (same_map (bit_of g (run g [] front) at.place) (bit_of g (run g [] order) at.place) c.ins (each front back e (record { at = at; bit = bit } ∷ r.more) whole))
  where
    each : (front back : List CoverAt) → order ≡ front ++ at ∷ back → (more : List Known) → run g [] order ≡ run g [] front ++ more → (input : Name) → In input c.ins → bit_of g (run g [] front) at.place input ≡ bit_of g (run g [] order) at.place input
    each front back e more whole input i =
        let net : Net = net_at at.place input in
        let is_net : IsNet design (net_at at.place input) = (is_c.model, is_c.has_model, contains_from (model_names is_c.model) input (in_covers is_c.model c input (in_got is_c.model.covers at.number c is_c.has_cover) i)) in
        let (d, x) = driven_of design g.faultless (net_at at.place input) is_net in
        bit_is design g (run g [] front) (net_at at.place input) is_net d x ∙ same_later design g order o front back at c input more e is_c i d x.source x.drives x.joined
        ∙ ap (λ ks. driver_value g ks d) (sym whole) ∙ sym (bit_is design g (run g [] order) (net_at at.place input) is_net d x)

actual_named : (m : Model) (l : Subckt) (pin : Pin) → In l m.subckts → In pin l.pins → In pin.actual (model_names m)
actual_named m l pin i j = in_right _ (flat_map (λ (l : Subckt). map (λ (q : Pin). q.actual) l.pins) m.subckts) pin.actual (in_flat (λ (l : Subckt). map (λ (q : Pin). q.actual) l.pins) m.subckts l pin.actual i (in_map (λ (q : Pin). q.actual) l.pins pin j))

pub joined_nets : (design : Design) → AreFaultless design.models → (a b : Net) → Joined design a b → (a ≡ b) ⊎ (IsNet design a × IsNet design b)
joined_nets design f a b (by_pin h) = inr ((h.model, h.has_model, contains_from (model_names h.model) a.name (subst (λ v. In v (model_names h.model)) (sym h.is_actual) (actual_named h.model h.line h.pin (in_got h.model.subckts h.number h.line h.has_line) (in_from h.line.pins h.pin h.has_pin)))), formals_named design f a b h)
joined_nets design f a b itself = inl refl
joined_nets design f a b (reversed j) = elim (joined_nets design f b a j) as (λ _. (a ≡ b) ⊎ (IsNet design a × IsNet design b)) [ inl e ↦ inl (sym e) | inr n ↦ inr (n.1, n.0) ]
joined_nets design f a c (followed {b = b} j k) = elim (joined_nets design f a b j) as (λ _. (a ≡ c) ⊎ (IsNet design a × IsNet design c)) [
  | inl e ↦ elim (joined_nets design f b c k) as (λ _. (a ≡ c) ⊎ (IsNet design a × IsNet design c)) [ inl d ↦ inl (e ∙ d) | inr n ↦ inr (subst (IsNet design) (sym e) n.0, n.1) ]
  | inr m ↦ elim (joined_nets design f b c k) as (λ _. (a ≡ c) ⊎ (IsNet design a × IsNet design c)) [ inl d ↦ inr (m.0, subst (IsNet design) d m.1) | inr n ↦ inr (m.0, n.1) ]
]

-- the IN names are distinct inputs
pub no_double : (test : Port → Bool) (before ports : List Port) → doubles_after test before ports ≡ [] → repeats_after before ports ≡ []
no_double test before [] e = refl
no_double test before (x ∷ xs) e =
    let s : stands_earlier before x xs ≡ false = first_of (stands_earlier before x xs) (test x) (none_kept (stands_earlier before x xs || test x) x (none_left (option_to_list (then_some (stands_earlier before x xs || test x) x)) (doubles_after test (x ∷ before) xs) e)) in
    ap (λ b. option_to_list (then_some b x) ++ repeats_after (x ∷ before) xs) s ∙ no_double test (x ∷ before) xs (none_right (option_to_list (then_some (stands_earlier before x xs || test x) x)) (doubles_after test (x ∷ before) xs) e)

named_apart : (ports : List Port) (x : Port) → ((q : Port) → In q ports → q.name ≢ x.name) → ¬ In x.name (port_names ports)
named_apart [] x a i = i
named_apart (p ∷ ps) x a (inl e) = a p (inl refl) (sym e)
named_apart (p ∷ ps) x a (inr i) = named_apart ps x (λ q j. a q (inr j)) i

distinct_names : (ports : List Port) → Apart ports → Distinct (port_names ports)
distinct_names [] a = tt
distinct_names (p ∷ ps) a = (named_apart ps p a.0, distinct_names ps a.1)

pub ports_are_distinct : FaultlessHaveDistinctPorts
ports_are_distinct models faultless m has = record { ins = distinct (is_output_before m) m.ins ins; clocks = distinct (is_output_before m) m.clocks clocks; outs = distinct (is_input_by_then m) m.outs outs }
  where
    distinct : (test : Port → Bool) (ports : List Port) → doubles_after test [] ports ≡ [] → IsDistinct bytes_eq (port_names ports)
    distinct test ports e = is_distinct (port_names ports) (distinct_names ports (no_repeat ports (no_double test [] ports e)))

    none : duplicate_ports m ≡ []
    none = clean_of models faultless DuplicatePort m (in_from models m has)

    both : doubles_after (is_output_before m) [] m.ins ++ doubles_after (is_output_before m) [] m.clocks ≡ []
    both = none_left _ (doubles_after (is_input_by_then m) [] m.outs) none

    ins : doubles_after (is_output_before m) [] m.ins ≡ []
    ins = none_left _ (doubles_after (is_output_before m) [] m.clocks) both

    clocks : doubles_after (is_output_before m) [] m.clocks ≡ []
    clocks = none_right (doubles_after (is_output_before m) [] m.ins) _ both

    outs : doubles_after (is_input_by_then m) [] m.outs ≡ []
    outs = none_right (doubles_after (is_output_before m) [] m.ins ++ doubles_after (is_output_before m) [] m.clocks) _ none

still_in : (design : Design) {names rest : List Name} (name : Name) → WithoutControl design names rest → In name rest → In name names
still_in design name none i = i
still_in design name (kept f w) (inl e) = inl e
still_in design name (kept f w) (inr i) = inr (still_in design name w i)
still_in design name (left_out c w) i = inr (still_in design name w i)

still_distinct : (design : Design) {names rest : List Name} → WithoutControl design names rest → Distinct names → Distinct rest
still_distinct design none d = d
still_distinct design (kept {name = n} f w) d = ((λ i. d.0 (still_in design n w i)), still_distinct design w d.1)
still_distinct design (left_out c w) d = still_distinct design w d.1

main_distinct : (design : Design) → AreFaultless design.models → (o : Option Model) → main_model design ≡ o → Distinct (port_names (unwrap_or (option_map (λ (m : Model). m.ins) o) []))
main_distinct design f None e = tt
main_distinct design f (Some m) e =
    let in_m : In m design.models = in_models design [] m (ap (option_and_then (λ (v : Model). Some v)) e) in
    distinct_names m.ins (no_repeat m.ins (no_double (is_output_before m) [] m.ins (none_left (doubles_after (is_output_before m) [] m.ins) (doubles_after (is_output_before m) [] m.clocks) (none_left (doubles_after (is_output_before m) [] m.ins ++ doubles_after (is_output_before m) [] m.clocks) (doubles_after (is_input_by_then m) [] m.outs) (clean_of design.models f DuplicatePort m in_m)))))

input_values : (names : List Name) (inputs : List Bool) → Distinct names → length inputs ≡ length names → map (input_value names inputs) names ≡ inputs
unfolding input_value
input_values [] [] d e = refl
input_values [] (b ∷ bs) d e = absurd (cc)
input_values (n ∷ ns) [] d e = absurd (cc)
input_values (n ∷ ns) (b ∷ bs) d e =
    ap (λ v. cond v b (input_value ns bs n) ∷ map (input_value (n ∷ ns) (b ∷ bs)) ns) (bytes_eq-same n)
    ∙ ap (λ l. b ∷ l) (same_map (input_value (n ∷ ns) (b ∷ bs)) (input_value ns bs) ns other ∙ input_values ns bs d.1 (ap pred e))
  where
    other : (x : Name) → In x ns → input_value (n ∷ ns) (b ∷ bs) x ≡ input_value ns bs x
    other x i = by (bytes_eq n x) refl
      where
        by : (t : Bool) → bytes_eq n x ≡ t → cond t b (input_value ns bs x) ≡ input_value ns bs x
        by false h = refl
        by true h = absurd (d.0 (subst (λ v. In v ns) (sym ((bytes_eq-Decides n x).0 h)) i))

input_bit : (design : Design) (g : Given design) (ks : List Known) (name : Name) → In name (main_inputs design) → bit_of g ks [] name ≡ input_value g.names g.inputs name
unfolding driver_value
input_bit design g ks name i = by (main_model design) refl i
  where
    by : (o : Option Model) → main_model design ≡ o → In name (port_names (unwrap_or (option_map (λ (m : Model). m.ins) o) [])) → bit_of g ks [] name ≡ input_value g.names g.inputs name
    by None e j = absurd j
    by (Some m) e j = bit_is design g ks (net_at [] name) (m, ap (option_and_then (λ (v : Model). Some v)) e, contains_from (model_names m) name (in_left _ _ name (in_left _ _ name (in_left _ _ name (in_left _ _ name (in_left (port_names m.ins) _ name j)))))) (port name)
        (record { source = net_at [] name; drives = of_port e (contains_from (port_names (m.ins ++ m.clocks)) name (names_left m.ins m.clocks name j)); joined = itself })

pub a_valuation : OrderedHaveAValuation
unfolding driver_value
a_valuation design faultless clean order o names in_names inputs same_length state = (
  bit_of g ks,
  record {
    in_names = names;
    are_in_names = in_names;
    inputs_given = same_map (bit_of g ks []) (input_value names inputs) names (λ name i. input_bit design g ks name (still_in design name in_names i)) ∙ input_values names inputs (still_distinct design in_names (main_distinct design faultless (main_model design) refl)) same_length;
    joined_agree = λ a b j free. elim (joined_nets design faultless a b j) as (λ _. bit_of g ks a.place a.name ≡ bit_of g ks b.place b.name) [
      | inl e ↦ ap (λ (v : Net). bit_of g ks v.place v.name) e
      | inr n ↦ (let (d, x) = driven_of design faultless b n.1 in bit_is design g ks a n.0 d (record { source = x.source; drives = x.drives; joined = followed x.joined (reversed j) }) ∙ sym (bit_is design g ks b n.1 d x))
    ];
    covers_hold = λ place m c is_m contains. (
        let (n, is_c) = got_from m.covers c (in_from m.covers c contains) in
        bit_is design g ks (net_at place c.out) (m, is_m, contains_from (model_names m) c.out (out_named m c (in_from m.covers c contains))) (cover place n) (record { source = net_at place c.out; drives = of_cover is_m is_c; joined = itself })
        ∙ cover_holds design g order o (record { place = place; number = n }) c (record { model = m; has_model = is_m; has_cover = is_c }));
    latches_hold = λ place n l is_l. (
        let (m, is_m, got) = and_then-from (λ (m : Model). slice_get m.latches n) (model_at design place) l is_l in
        bit_is design g ks (net_at place l.output) (m, is_m, contains_from (model_names m) l.output (latch_named m l (in_got m.latches n l got))) (latch place n) (record { source = net_at place l.output; drives = of_latch is_m got; joined = itself }));
  },
)
  where
    g : Given design
    g = record { faultless = faultless; clean = clean; names = names; inputs = inputs; state = state }

    ks : List Known
    ks = run g [] order

    out_named : (m : Model) (c : Cover) → In c m.covers → In c.out (model_names m)
    out_named m c i = in_left _ _ c.out (in_left _ _ c.out (in_right (port_names m.ins ++ port_names m.outs ++ port_names m.clocks) _ c.out (in_flat (λ (c : Cover). c.ins ++ c.out ∷ []) m.covers c c.out i (in_right c.ins (c.out ∷ []) c.out (inl refl)))))

    latch_named : (m : Model) (l : LatchRow) → In l m.latches → In l.output (model_names m)
    latch_named m l i = in_left _ _ l.output (in_right (port_names m.ins ++ port_names m.outs ++ port_names m.clocks ++ flat_map (λ (c : Cover). c.ins ++ c.out ∷ []) m.covers) _ l.output (in_flat (λ (l : LatchRow). l.input ∷ l.output ∷ option_to_list l.control) m.latches l l.output i (inr (inl refl))))
