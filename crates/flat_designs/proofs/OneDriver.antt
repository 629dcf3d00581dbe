-- Joined nets have at most one driver.
use Rattle.std.proofs.Common.{◌≡◌, refl, sym, ap, subst, ◌∙◌, ℕ, ◌<◌, ◌≤◌, ◌⊎◌, inl, inr, List, [], ◌∷◌, ◌++◌, map, Bool, true, false, not, ◌||◌, ◌&&◌, true≢false, arith, slice_get, option_and_then}
use Rattle.std.specs.Prelude.{Some, None, Option, bytes_eq, Contains, option_to_list, nat_le, nat_lt}
use Rattle.std.specs.Bool.{then_some}
use Rattle.std.specs.List.{list_any}
use Rattle.std.proofs.lemmas.Slice.Eq.{bytes_eq-Decides}
use Rattle.std.proofs.lemmas.Bool.{ltb-false, ltb-true, leb-true, or_from as or_false}
use Rattle.netlist_core.specs.declared.model.Port.{Port}
use Rattle.netlist_core.specs.declared.model.Pin.{Pin}
use Rattle.netlist_core.specs.declared.model.Cover.{Cover}
use Rattle.netlist_core.specs.declared.model.LatchRow.{LatchRow}
use Rattle.netlist_core.specs.declared.model.Subckt.{Subckt}
use Rattle.netlist_core.specs.declared.model.Model.{Model}
use Rattle.netlist_core.specs.declared.model.Design.{Design}
use Rattle.netlist_core.specs.Names.{port_names, at_line, model_named}
use Rattle.netlist_meaning.specs.Places.{Place, model_below, model_at}
use Rattle.netlist_meaning.specs.Nets.{Net, net_at, IsPinned, Joined}
use Rattle.netlist_meaning.specs.Nets.Joined.{by_pin, itself, reversed, followed}
use Rattle.netlist_meaning.proofs.Depth.{model_at-append}
use Rattle.netlist_rules.specs.declared.fault.FaultKind.TheVariants.{MultipleDrivers}
use Rattle.netlist_rules.specs.Drivers.{is_input_pin, is_output_pin, same_name_up_to, same_name_before, stands_earlier, firsts_after, inputs_of, cover_output, latch_output, actual_if, actuals_on, actuals, drivers_of}
use Rattle.netlist_rules.specs.ModelFaults.{AreFaultless}
use Rattle.lists.proofs.Members.{In, in_from, in_left, in_right, in_mapped, filtered_in, in_got}
use Rattle.flat_designs.specs.OneDriver.{Driver, Drives, FaultlessHaveAtMostOneDriver}
use Rattle.flat_designs.specs.OneDriver.Driver.{port, cover, latch}
use Rattle.flat_designs.specs.OneDriver.Drives.{of_port, of_cover, of_latch}
use Rattle.lists.proofs.Ends.{not_nil, snoc_same}
use Rattle.flat_designs.proofs.Faultless.{in_models, named_in, formals_once, clean_of, known}
use Rattle.flat_designs.proofs.Local.{Apart, no_repeat, apart_left, apart_right, apart_cross, same_place, same_line, apart_at, same_kept, got_mapped, got_flat}
use Rattle.std.proofs.lemmas.Bool.{and_parts as two_true}
use Rattle.std.proofs.lemmas.Option.{same_Some}
use Rattle.lists.proofs.Members.{passes_at as any_in}
use Rattle.netlist_rules.proofs.Faultless.{port_name}

pub none_any : {X : Type 0} (test : X → Bool) (xs : List X) → ((x : X) → In x xs → test x ≡ false) → list_any test xs ≡ false
none_any test [] f = refl
none_any test (x ∷ xs) f = ap (λ b. b || list_any test xs) (f x (inl refl)) ∙ none_any test xs (λ y i. f y (inr i))

keep_front : (b : Bool) (x : Port) (rest : List Port) → b ≡ false → In x.name (port_names (option_to_list (then_some (not b) x) ++ rest))
keep_front true x rest e = absurd (true≢false e)
keep_front false x rest e = inl refl

keep_rest : (b : Bool) (x : Port) (rest : List Port) (name : List ℕ) → In name (port_names rest) → In name (port_names (option_to_list (then_some (not b) x) ++ rest))
keep_rest true x rest name i = i
keep_rest false x rest name i = inr i

below : (m n : ℕ) (b : Bool) → nat_lt m n ≡ b → (m < n) ⊎ (n ≤ m)
below m n true h = inl (ltb-true m n h)
below m n false h = inr (ltb-false m n h)

LaterIn : List Port → Port → Type 0
LaterIn before p = (b : Port) → In b before → b.name ≡ p.name → p.line < b.line

at_first : (before : List Port) (x : Port) (xs : List Port) → ((q : Port) → In q xs → LaterIn (x ∷ before) q → In q.name (port_names (firsts_after (x ∷ before) xs))) → LaterIn before x → In x.name (port_names (firsts_after before (x ∷ xs)))
unfolding LaterIn
at_first before x xs rec f = by (list_any (same_name_before x) xs) refl
  where
    up_to : (b : Port) → In b before → same_name_up_to x b ≡ false
    up_to b i = two (bytes_eq b.name x.name) (nat_le b.line x.line) refl refl
      where
        two : (s t : Bool) → bytes_eq b.name x.name ≡ s → nat_le b.line x.line ≡ t → (s && t) ≡ false
        two false t h k = refl
        two true false h k = refl
        two true true h k = absurd (let l : x.line < b.line = f b i ((bytes_eq-Decides b.name x.name).0 h) in let m : b.line ≤ x.line = leb-true b.line x.line k in omega arith)

    by : (b : Bool) → list_any (same_name_before x) xs ≡ b → In x.name (port_names (firsts_after before (x ∷ xs)))
    by false h = keep_front (stands_earlier before x xs) x (firsts_after (x ∷ before) xs) (or_false (list_any (same_name_up_to x) before) (list_any (same_name_before x) xs) (none_any (same_name_up_to x) before up_to) h)
    by true h =
        let (q, i, t) = any_in (same_name_before x) xs h in
        let (s, l) = two_true (bytes_eq q.name x.name) (nat_lt q.line x.line) t in
        let same : q.name ≡ x.name = (bytes_eq-Decides q.name x.name).0 s in
        let less : q.line < x.line = ltb-true q.line x.line l in
        let r : In q.name (port_names (firsts_after (x ∷ before) xs)) = rec q i (λ b j e. elim j as (λ _. q.line < b.line) [ inl is ↦ subst (λ (v : Port). q.line < v.line) (sym is) less | inr k ↦ (let g : x.line < b.line = f b k (e ∙ same) in omega arith) ]) in
        keep_rest (stands_earlier before x xs) x (firsts_after (x ∷ before) xs) x.name (subst (λ v. In v (port_names (firsts_after (x ∷ before) xs))) same r)

later_kept : (before : List Port) (x : Port) (xs : List Port) (p : Port) → ((q : Port) → In q xs → LaterIn (x ∷ before) q → In q.name (port_names (firsts_after (x ∷ before) xs))) → In p xs → LaterIn before p → In p.name (port_names (firsts_after before (x ∷ xs)))
unfolding LaterIn
later_kept before x xs p rec i f = by (bytes_eq x.name p.name) refl
  where
    go : ((b : Port) → In b (x ∷ before) → b.name ≡ p.name → p.line < b.line) → In p.name (port_names (firsts_after before (x ∷ xs)))
    go g = keep_rest (stands_earlier before x xs) x (firsts_after (x ∷ before) xs) p.name (rec p i g)

    by : (b : Bool) → bytes_eq x.name p.name ≡ b → In p.name (port_names (firsts_after before (x ∷ xs)))
    by false h = go (λ b j e. elim j as (λ _. p.line < b.line) [
      | inl is ↦ absurd (let t : bytes_eq x.name p.name ≡ true = (bytes_eq-Decides x.name p.name).1 (sym (ap port_name is) ∙ e) in true≢false (sym t ∙ h))
      | inr k ↦ f b k e
    ])
    by true h =
        let same : x.name ≡ p.name = (bytes_eq-Decides x.name p.name).0 h in
        elim (below p.line x.line (nat_lt p.line x.line) refl) as (λ _. In p.name (port_names (firsts_after before (x ∷ xs)))) [
          | inl less ↦ go (λ b j e. elim j as (λ _. p.line < b.line) [ inl is ↦ subst (λ (v : Port). p.line < v.line) (sym is) less | inr k ↦ f b k e ])
          | inr more ↦ subst (λ v. In v (port_names (firsts_after before (x ∷ xs)))) same (at_first before x xs rec (λ b j e. (let g : p.line < b.line = f b j (e ∙ same) in omega arith)))
        ]

kept : (before ports : List Port) (p : Port) → In p ports → LaterIn before p → In p.name (port_names (firsts_after before ports))
unfolding LaterIn
kept before [] p i f = absurd i
kept before (x ∷ xs) p (inl same) f = subst (λ (v : Port). In v.name (port_names (firsts_after before (x ∷ xs)))) (sym same) (at_first before x xs (λ q i g. kept (x ∷ before) xs q i g) (λ b j e. subst (λ (v : Port). v.line < b.line) same (f b j (e ∙ ap port_name (sym same)))))
kept before (x ∷ xs) p (inr i) f = later_kept before x xs p (λ q j g. kept (x ∷ before) xs q j g) i f

-- a driver of a net in its model
pub data Local (models : List Model) (m : Model) (name : List ℕ) : Type 0 where
  by_input : In name (port_names (m.ins ++ m.clocks)) → Local models m name
  by_cover : (n : ℕ) (c : Cover) → slice_get m.covers n ≡ Some c → c.out ≡ name → Local models m name
  by_latch : (n : ℕ) (l : LatchRow) → slice_get m.latches n ≡ Some l → l.output ≡ name → Local models m name
  by_output : (n : ℕ) (s : Subckt) (pin : Pin) → slice_get m.subckts n ≡ Some s → In pin s.pins → is_output_pin (model_named models s.model) pin ≡ true → pin.actual ≡ name → Local models m name

abbrev SameLocal : {models : List Model} {m : Model} {name : List ℕ} → Local models m name → Local models m name → Type 0
SameLocal (by_input i) (by_input j) = Unit {0}
SameLocal (by_input i) _ = ⊥
SameLocal (by_cover n c i e) (by_cover k d j f) = n ≡ k
SameLocal (by_cover n c i e) _ = ⊥
SameLocal (by_latch n c i e) (by_latch k d j f) = n ≡ k
SameLocal (by_latch n c i e) _ = ⊥
SameLocal (by_output n s p i j o e) (by_output k t q x y z f) = (n ≡ k) × (p ≡ q)
SameLocal (by_output n s p i j o e) _ = ⊥

input_port : (m : Model) (name : List ℕ) → In name (port_names (m.ins ++ m.clocks)) → (q : Port) × In q (inputs_of m) × (name ≡ q.name)
unfolding LaterIn
input_port m name i =
    let (p, j, e) = in_mapped port_name (m.ins ++ m.clocks) name i in
    let (q, k, f) = in_mapped port_name (inputs_of m) p.name (kept [] (m.ins ++ m.clocks) p j (λ b x s. absurd x)) in
    (q, k, e ∙ f)

output_port : (models : List Model) (s : Subckt) (pin : Pin) → In pin s.pins → is_output_pin (model_named models s.model) pin ≡ true → In (at_line s.line pin.actual) (actuals_on models is_output_pin s)
output_port models s pin i e = filtered_in (actual_if (is_output_pin (model_named models s.model)) s.line) s.pins pin (at_line s.line pin.actual) i (ap (λ b. then_some b (at_line s.line pin.actual)) e)

pub record Drivers (models : List Model) (m : Model) : Type 0 where
  pub apart : Apart (drivers_of models m)

input_cover : (models : List Model) (m : Model) (name : List ℕ) → Drivers models m → In name (port_names (m.ins ++ m.clocks)) → (n : ℕ) (c : Cover) → slice_get m.covers n ≡ Some c → c.out ≡ name → ⊥
input_cover models m name a i k d j f =
    let (q, x, e) = input_port m name i in
    apart_cross (inputs_of m) (map cover_output m.covers) q (cover_output d) (apart_left _ (map latch_output m.latches) (apart_left _ (actuals models is_output_pin m) a.apart)) x (got_mapped cover_output m.covers k d j) (f ∙ e)

input_latch : (models : List Model) (m : Model) (name : List ℕ) → Drivers models m → In name (port_names (m.ins ++ m.clocks)) → (n : ℕ) (l : LatchRow) → slice_get m.latches n ≡ Some l → l.output ≡ name → ⊥
input_latch models m name a i k d j f =
    let (q, x, e) = input_port m name i in
    apart_cross (inputs_of m ++ map cover_output m.covers) (map latch_output m.latches) q (latch_output d) (apart_left _ (actuals models is_output_pin m) a.apart) (in_left (inputs_of m) _ q x) (got_mapped latch_output m.latches k d j) (f ∙ e)

pub input_pin : (models : List Model) (m : Model) (name : List ℕ) → Drivers models m → In name (port_names (m.ins ++ m.clocks)) → (k : ℕ) (t : Subckt) (pin : Pin) → slice_get m.subckts k ≡ Some t → In pin t.pins → is_output_pin (model_named models t.model) pin ≡ true → pin.actual ≡ name → ⊥
input_pin models m name a i k t pin x y z f =
    let (q, u, e) = input_port m name i in
    apart_cross (inputs_of m ++ map cover_output m.covers ++ map latch_output m.latches) (actuals models is_output_pin m) q (at_line t.line pin.actual) a.apart (in_left (inputs_of m ++ map cover_output m.covers) _ q (in_left (inputs_of m) _ q u)) (got_flat (actuals_on models is_output_pin) m.subckts k t (at_line t.line pin.actual) x (output_port models t pin y z)) (f ∙ e)

cover_latch : (models : List Model) (m : Model) (name : List ℕ) → Drivers models m → (n : ℕ) (c : Cover) → slice_get m.covers n ≡ Some c → c.out ≡ name → (n : ℕ) (l : LatchRow) → slice_get m.latches n ≡ Some l → l.output ≡ name → ⊥
cover_latch models m name a n c i e k d j f =
    apart_cross (inputs_of m ++ map cover_output m.covers) (map latch_output m.latches) (cover_output c) (latch_output d) (apart_left _ (actuals models is_output_pin m) a.apart) (in_right (inputs_of m) _ (cover_output c) (got_mapped cover_output m.covers n c i)) (got_mapped latch_output m.latches k d j) (f ∙ sym e)

cover_pin : (models : List Model) (m : Model) (name : List ℕ) → Drivers models m → (n : ℕ) (c : Cover) → slice_get m.covers n ≡ Some c → c.out ≡ name → (k : ℕ) (t : Subckt) (pin : Pin) → slice_get m.subckts k ≡ Some t → In pin t.pins → is_output_pin (model_named models t.model) pin ≡ true → pin.actual ≡ name → ⊥
cover_pin models m name a n c i e k t pin x y z f =
    apart_cross (inputs_of m ++ map cover_output m.covers ++ map latch_output m.latches) (actuals models is_output_pin m) (cover_output c) (at_line t.line pin.actual) a.apart (in_left (inputs_of m ++ map cover_output m.covers) _ (cover_output c) (in_right (inputs_of m) _ (cover_output c) (got_mapped cover_output m.covers n c i))) (got_flat (actuals_on models is_output_pin) m.subckts k t (at_line t.line pin.actual) x (output_port models t pin y z)) (f ∙ sym e)

latch_pin : (models : List Model) (m : Model) (name : List ℕ) → Drivers models m → (n : ℕ) (l : LatchRow) → slice_get m.latches n ≡ Some l → l.output ≡ name → (k : ℕ) (t : Subckt) (pin : Pin) → slice_get m.subckts k ≡ Some t → In pin t.pins → is_output_pin (model_named models t.model) pin ≡ true → pin.actual ≡ name → ⊥
latch_pin models m name a n c i e k t pin x y z f =
    apart_cross (inputs_of m ++ map cover_output m.covers ++ map latch_output m.latches) (actuals models is_output_pin m) (latch_output c) (at_line t.line pin.actual) a.apart (in_right (inputs_of m ++ map cover_output m.covers) _ (latch_output c) (got_mapped latch_output m.latches n c i)) (got_flat (actuals_on models is_output_pin) m.subckts k t (at_line t.line pin.actual) x (output_port models t pin y z)) (f ∙ sym e)

local_one : (models : List Model) (m : Model) (name : List ℕ) → Drivers models m → (a b : Local models m name) → SameLocal a b
local_one models m name a (by_input i) (by_input j) = tt
local_one models m name a (by_input i) (by_cover k d j f) = input_cover models m name a i k d j f
local_one models m name a (by_input i) (by_latch k d j f) = input_latch models m name a i k d j f
local_one models m name a (by_input i) (by_output k t pin x y z f) = input_pin models m name a i k t pin x y z f
local_one models m name a (by_cover n c i e) (by_input j) = input_cover models m name a j n c i e
local_one models m name a (by_cover n c i e) (by_cover k d j f) = same_place cover_output m.covers n k c d (apart_right (inputs_of m) _ (apart_left _ (map latch_output m.latches) (apart_left _ (actuals models is_output_pin m) a.apart))) i j (e ∙ sym f)
local_one models m name a (by_cover n c i e) (by_latch k d j f) = cover_latch models m name a n c i e k d j f
local_one models m name a (by_cover n c i e) (by_output k t pin x y z f) = cover_pin models m name a n c i e k t pin x y z f
local_one models m name a (by_latch n c i e) (by_input j) = input_latch models m name a j n c i e
local_one models m name a (by_latch n c i e) (by_cover k d j f) = cover_latch models m name a k d j f n c i e
local_one models m name a (by_latch n c i e) (by_latch k d j f) = same_place latch_output m.latches n k c d (apart_right (inputs_of m ++ map cover_output m.covers) _ (apart_left _ (actuals models is_output_pin m) a.apart)) i j (e ∙ sym f)
local_one models m name a (by_latch n c i e) (by_output k t pin x y z f) = latch_pin models m name a n c i e k t pin x y z f
local_one models m name a (by_output n s p i j o e) (by_input k) = input_pin models m name a k n s p i j o e
local_one models m name a (by_output n s p i j o e) (by_cover k d x f) = cover_pin models m name a k d x f n s p i j o e
local_one models m name a (by_output n s p i j o e) (by_latch k d x f) = latch_pin models m name a k d x f n s p i j o e
local_one models m name a (by_output n s p i j o e) (by_output k t q x y z f) = (line, pins)
  where
    all : Apart (actuals models is_output_pin m)
    all = apart_right (inputs_of m ++ map cover_output m.covers ++ map latch_output m.latches) _ a.apart

    line : n ≡ k
    line = same_line (actuals_on models is_output_pin) m.subckts n k s t (at_line s.line p.actual) (at_line t.line q.actual) all i x (output_port models s p j o) (output_port models t q y z) (e ∙ sym f)

    same : t ≡ s
    same = same_Some _ _ (sym x ∙ ap (slice_get m.subckts) (sym line) ∙ i)

    pins : p ≡ q
    pins = same_kept (actual_if (is_output_pin (model_named models s.model)) s.line) s.pins p q (at_line s.line p.actual) (at_line s.line q.actual) (apart_at (actuals_on models is_output_pin) m.subckts n s all i) j (subst (λ (v : Subckt). In q v.pins) same y)
        (ap (λ b. then_some b (at_line s.line p.actual)) o) (ap (λ b. then_some b (at_line s.line q.actual)) (subst (λ (v : Subckt). is_output_pin (model_named models v.model) q ≡ true) same z)) (e ∙ sym f)

-- where a net gets its bit from
pub data Reaches (design : Design) : Net → Driver → Type 0 where
  here : {net : Net} {d : Driver} → Drives design d net → Reaches design net d
  up : {outer inner : Net} {d : Driver} (h : IsPinned design outer inner) → is_input_pin (model_named design.models h.line.model) h.pin ≡ true → Reaches design outer d → Reaches design inner d
  down : {outer inner : Net} {d : Driver} (h : IsPinned design outer inner) → is_output_pin (model_named design.models h.line.model) h.pin ≡ true → Reaches design inner d → Reaches design outer d

data At (design : Design) (d : Driver) (net : Net) : Type 0 where
  at_port : (m : Model) → model_at design net.place ≡ Some m → net.place ≡ [] → In net.name (port_names (m.ins ++ m.clocks)) → d ≡ port net.name → At design d net
  at_cover : (m : Model) (n : ℕ) (c : Cover) → model_at design net.place ≡ Some m → slice_get m.covers n ≡ Some c → c.out ≡ net.name → d ≡ cover net.place n → At design d net
  at_latch : (m : Model) (n : ℕ) (l : LatchRow) → model_at design net.place ≡ Some m → slice_get m.latches n ≡ Some l → l.output ≡ net.name → d ≡ latch net.place n → At design d net

drives_at : (design : Design) (d : Driver) (net : Net) → Drives design d net → At design d net
drives_at design d net (of_port {main = main} {name = name} e i) = at_port main (ap (option_and_then (model_below design [])) e) refl (in_from (port_names (main.ins ++ main.clocks)) name i) refl
drives_at design d net (of_cover {model = m} {number = n} {c = c} e i) = at_cover m n c e i refl refl
drives_at design d net (of_latch {model = m} {number = n} {l = l} e i) = at_latch m n l e i refl refl

pub drivers_apart : (design : Design) → AreFaultless design.models → (place : Place) (m : Model) → model_at design place ≡ Some m → Drivers design.models m
drivers_apart design a place m e = record { apart = no_repeat (drivers_of design.models m) (clean_of design.models a MultipleDrivers m (in_models design place m e)) }

one_model : (design : Design) (p q : Place) (m n : Model) → p ≡ q → model_at design p ≡ Some m → model_at design q ≡ Some n → m ≡ n
one_model design p q m n s e f = same_Some _ _ (sym e ∙ ap (model_at design) s ∙ f)

at_one : (design : Design) → AreFaultless design.models → (d e : Driver) (net : Net) → At design d net → At design e net → d ≡ e
at_one design a d e net (at_port m i z j x) (at_port n k w l y) = x ∙ sym y
at_one design a d e net (at_port m i z j x) (at_cover n k c l o p y) =
    let same : n ≡ m = one_model design net.place net.place n m refl l i in
    absurd (input_cover design.models m net.name (drivers_apart design a net.place m i) j k c (subst (λ (v : Model). slice_get v.covers k ≡ Some c) same o) p)
at_one design a d e net (at_port m i z j x) (at_latch n k c l o p y) =
    let same : n ≡ m = one_model design net.place net.place n m refl l i in
    absurd (input_latch design.models m net.name (drivers_apart design a net.place m i) j k c (subst (λ (v : Model). slice_get v.latches k ≡ Some c) same o) p)
at_one design a d e net (at_cover n k c l o p y) (at_port m i z j x) =
    let same : n ≡ m = one_model design net.place net.place n m refl l i in
    absurd (input_cover design.models m net.name (drivers_apart design a net.place m i) j k c (subst (λ (v : Model). slice_get v.covers k ≡ Some c) same o) p)
at_one design a d e net (at_cover n k c l o p y) (at_cover m i z j x q w) =
    let same : m ≡ n = one_model design net.place net.place m n refl j l in
    let number : k ≡ i = local_one design.models n net.name (drivers_apart design a net.place n l) (by_cover k c o p) (by_cover i z (subst (λ (v : Model). slice_get v.covers i ≡ Some z) same x) q) in
    y ∙ ap (cover net.place) number ∙ sym w
at_one design a d e net (at_cover n k c l o p y) (at_latch m i z j x q w) =
    let same : m ≡ n = one_model design net.place net.place m n refl j l in
    absurd (cover_latch design.models n net.name (drivers_apart design a net.place n l) k c o p i z (subst (λ (v : Model). slice_get v.latches i ≡ Some z) same x) q)
at_one design a d e net (at_latch n k c l o p y) (at_port m i z j x) =
    let same : n ≡ m = one_model design net.place net.place n m refl l i in
    absurd (input_latch design.models m net.name (drivers_apart design a net.place m i) j k c (subst (λ (v : Model). slice_get v.latches k ≡ Some c) same o) p)
at_one design a d e net (at_latch n k c l o p y) (at_cover m i z j x q w) =
    let same : m ≡ n = one_model design net.place net.place m n refl j l in
    absurd (cover_latch design.models n net.name (drivers_apart design a net.place n l) i z (subst (λ (v : Model). slice_get v.covers i ≡ Some z) same x) q k c o p)
at_one design a d e net (at_latch n k c l o p y) (at_latch m i z j x q w) =
    let same : m ≡ n = one_model design net.place net.place m n refl j l in
    let number : k ≡ i = local_one design.models n net.name (drivers_apart design a net.place n l) (by_latch k c o p) (by_latch i z (subst (λ (v : Model). slice_get v.latches i ≡ Some z) same x) q) in
    y ∙ ap (latch net.place) number ∙ sym w

-- the model inside, and its formal
record Inside (design : Design) (outer inner : Net) (h : IsPinned design outer inner) : Type 0 where
  pub placed : Model
  pub is_found : model_named design.models h.line.model ≡ Some placed
  pub is_at : model_at design inner.place ≡ Some placed

inside : (design : Design) (outer inner : Net) (h : IsPinned design outer inner) (placed : Model) → model_named design.models h.line.model ≡ Some placed → Inside design outer inner h
inside design outer inner h placed is_found = record {
  placed = placed;
  is_found = is_found;
  is_at = ap (model_at design) h.is_deeper ∙ model_at-append design outer.place (h.number ∷ []) ∙ ap (option_and_then (model_below design (h.number ∷ []))) h.has_model
      ∙ ap (λ o. option_and_then (model_below design []) (option_and_then (λ (l : Subckt). model_named design.models l.model) o)) h.has_line ∙ ap (option_and_then (model_below design [])) is_found;
}

record IsInputInside (design : Design) (net : Net) : Type 0 where
  pub model : Model
  pub is_at : model_at design net.place ≡ Some model
  pub is_input : In net.name (port_names (model.ins ++ model.clocks))

input_inside : (design : Design) (outer inner : Net) (h : IsPinned design outer inner) → is_input_pin (model_named design.models h.line.model) h.pin ≡ true → IsInputInside design inner
unfolding inside
input_inside design outer inner h e = by (model_named design.models h.line.model) refl e
  where
    by : (o : Option Model) → model_named design.models h.line.model ≡ o → is_input_pin o h.pin ≡ true → IsInputInside design inner
    by None f t = absurd (true≢false (sym t))
    by (Some m) f t = record { model = m; is_at = (inside design outer inner h m f).is_at; is_input = subst (λ v. In v (port_names (m.ins ++ m.clocks))) (sym h.is_formal) (named_in (m.ins ++ m.clocks) h.pin.formal t) }

at_up : (design : Design) → AreFaultless design.models → (d : Driver) (outer inner : Net) (h : IsPinned design outer inner) → is_input_pin (model_named design.models h.line.model) h.pin ≡ true → At design d inner → ⊥
at_up design a d outer inner h k (at_port m i z j x) = not_nil outer.place h.number (sym h.is_deeper ∙ z)
at_up design a d outer inner h k (at_cover n i c l o p y) =
    let r : IsInputInside design inner = input_inside design outer inner h k in
    let same : n ≡ r.model = one_model design inner.place inner.place n r.model refl l r.is_at in
    input_cover design.models r.model inner.name (drivers_apart design a inner.place r.model r.is_at) r.is_input i c (subst (λ (v : Model). slice_get v.covers i ≡ Some c) same o) p
at_up design a d outer inner h k (at_latch n i c l o p y) =
    let r : IsInputInside design inner = input_inside design outer inner h k in
    let same : n ≡ r.model = one_model design inner.place inner.place n r.model refl l r.is_at in
    input_latch design.models r.model inner.name (drivers_apart design a inner.place r.model r.is_at) r.is_input i c (subst (λ (v : Model). slice_get v.latches i ≡ Some c) same o) p

at_down : (design : Design) → AreFaultless design.models → (d : Driver) (outer inner : Net) (h : IsPinned design outer inner) → is_output_pin (model_named design.models h.line.model) h.pin ≡ true → At design d outer → ⊥
at_down design a d outer inner h k (at_port m i z j x) =
    let same : m ≡ h.model = one_model design outer.place outer.place m h.model refl i h.has_model in
    input_pin design.models h.model outer.name (drivers_apart design a outer.place h.model h.has_model) (subst (λ (v : Model). In outer.name (port_names (v.ins ++ v.clocks))) same j) h.number h.line h.pin h.has_line (in_from h.line.pins h.pin h.has_pin) k (sym h.is_actual)
at_down design a d outer inner h k (at_cover n i c l o p y) =
    let same : n ≡ h.model = one_model design outer.place outer.place n h.model refl l h.has_model in
    cover_pin design.models h.model outer.name (drivers_apart design a outer.place h.model h.has_model) i c (subst (λ (v : Model). slice_get v.covers i ≡ Some c) same o) p h.number h.line h.pin h.has_line (in_from h.line.pins h.pin h.has_pin) k (sym h.is_actual)
at_down design a d outer inner h k (at_latch n i c l o p y) =
    let same : n ≡ h.model = one_model design outer.place outer.place n h.model refl l h.has_model in
    latch_pin design.models h.model outer.name (drivers_apart design a outer.place h.model h.has_model) i c (subst (λ (v : Model). slice_get v.latches i ≡ Some c) same o) p h.number h.line h.pin h.has_line (in_from h.line.pins h.pin h.has_pin) k (sym h.is_actual)

up_down : (design : Design) → AreFaultless design.models → (outer net inner : Net) (h : IsPinned design outer net) (g : IsPinned design net inner) → is_input_pin (model_named design.models h.line.model) h.pin ≡ true → is_output_pin (model_named design.models g.line.model) g.pin ≡ true → ⊥
up_down design a outer net inner h g k l =
    let r : IsInputInside design net = input_inside design outer net h k in
    let same : r.model ≡ g.model = one_model design net.place net.place r.model g.model refl r.is_at g.has_model in
    input_pin design.models g.model net.name (drivers_apart design a net.place g.model g.has_model) (subst (λ (v : Model). In net.name (port_names (v.ins ++ v.clocks))) same r.is_input) g.number g.line g.pin g.has_line (in_from g.line.pins g.pin g.has_pin) l (sym g.is_actual)

same_net : (a b : Net) → a.place ≡ b.place → a.name ≡ b.name → a ≡ b
same_net a b e f = ap (λ p. net_at p a.name) e ∙ ap (net_at b.place) f

-- an inner net has one outer one
up_up : (design : Design) → AreFaultless design.models → (outer other inner : Net) (h : IsPinned design outer inner) (g : IsPinned design other inner) → outer ≡ other
up_up design a outer other inner h g =
    let (place, number) = snoc_same outer.place other.place h.number g.number (sym h.is_deeper ∙ g.is_deeper) in
    let model : h.model ≡ g.model = one_model design outer.place other.place h.model g.model place h.has_model g.has_model in
    let line : g.line ≡ h.line = same_Some _ _ (sym g.has_line ∙ ap (λ (v : Model). slice_get v.subckts g.number) (sym model) ∙ ap (slice_get h.model.subckts) (sym number) ∙ h.has_line) in
    let actual : h.pin.actual ≡ g.pin.actual = formals_once design a outer.place h.number h.model h.line h.pin g.pin h.has_model h.has_line h.has_pin (subst (λ (v : Subckt). Contains v.pins g.pin) line g.has_pin) (sym h.is_formal ∙ g.is_formal) in
    same_net outer other place (h.is_actual ∙ actual ∙ sym g.is_actual)

-- an outer net has one inner one that drives it
down_down : (design : Design) → AreFaultless design.models → (outer inner other : Net) (h : IsPinned design outer inner) (g : IsPinned design outer other) → is_output_pin (model_named design.models h.line.model) h.pin ≡ true → is_output_pin (model_named design.models g.line.model) g.pin ≡ true → inner ≡ other
down_down design a outer inner other h g k l =
    let model : g.model ≡ h.model = one_model design outer.place outer.place g.model h.model refl g.has_model h.has_model in
    let (number, pin) = local_one design.models h.model outer.name (drivers_apart design a outer.place h.model h.has_model)
    (by_output h.number h.line h.pin h.has_line (in_from h.line.pins h.pin h.has_pin) k (sym h.is_actual))
    (by_output g.number g.line g.pin (subst (λ (v : Model). slice_get v.subckts g.number ≡ Some g.line) model g.has_line) (in_from g.line.pins g.pin g.has_pin) l (sym g.is_actual)) in
    same_net inner other (h.is_deeper ∙ ap (λ n. outer.place ++ n ∷ []) number ∙ sym g.is_deeper) (h.is_formal ∙ ap (λ (p : Pin). p.formal) pin ∙ sym g.is_formal)

one_end : (design : Design) → AreFaultless design.models → (net : Net) (d e : Driver) → Reaches design net d → Reaches design net e → d ≡ e
one_end design a net d e (here x) (here y) = at_one design a d e net (drives_at design d net x) (drives_at design e net y)
one_end design a net d e (here x) (up {outer = o} h k r) = absurd (at_up design a d o net h k (drives_at design d net x))
one_end design a net d e (here x) (down {inner = i} h k r) = absurd (at_down design a d net i h k (drives_at design d net x))
one_end design a net d e (up {outer = o} h k r) (here y) = absurd (at_up design a e o net h k (drives_at design e net y))
one_end design a net d e (up {outer = o} h k r) (up {outer = p} g l t) = one_end design a o d e r (subst (λ v. Reaches design v e) (sym (up_up design a o p net h g)) t)
one_end design a net d e (up {outer = o} h k r) (down {inner = i} g l t) = absurd (up_down design a o net i h g k l)
one_end design a net d e (down {inner = i} h k r) (here y) = absurd (at_down design a e net i h k (drives_at design e net y))
one_end design a net d e (down {inner = i} h k r) (up {outer = o} g l t) = absurd (up_down design a o net i g h l k)
one_end design a net d e (down {inner = i} h k r) (down {inner = j} g l t) = one_end design a i d e r (subst (λ v. Reaches design v e) (sym (down_down design a net i j h g k l)) t)

Both : (design : Design) → Net → Net → Type 0
Both design x y = (d : Driver) → (Reaches design x d → Reaches design y d) × (Reaches design y d → Reaches design x d)

pin_is_known : (design : Design) → AreFaultless design.models → (outer inner : Net) (h : IsPinned design outer inner)
    → (is_input_pin (model_named design.models h.line.model) h.pin ≡ true) ⊎ (is_output_pin (model_named design.models h.line.model) h.pin ≡ true)
pin_is_known design a outer inner h = known design.models a h.model h.line h.pin (in_models design outer.place h.model h.has_model) (in_got h.model.subckts h.number h.line h.has_line) (in_from h.line.pins h.pin h.has_pin)

-- a pin carries one driver both ways
from_inner : (design : Design) → AreFaultless design.models → (outer inner : Net) (h : IsPinned design outer inner) → is_input_pin (model_named design.models h.line.model) h.pin ≡ true → (d : Driver) → Reaches design inner d → Reaches design outer d
from_inner design a outer inner h k d (here x) = absurd (at_up design a d outer inner h k (drives_at design d inner x))
from_inner design a outer inner h k d (up {outer = o} g l r) = subst (λ v. Reaches design v d) (up_up design a o outer inner g h) r
from_inner design a outer inner h k d (down {inner = i} g l r) = absurd (up_down design a outer inner i h g k l)

from_outer : (design : Design) → AreFaultless design.models → (outer inner : Net) (h : IsPinned design outer inner) → is_output_pin (model_named design.models h.line.model) h.pin ≡ true → (d : Driver) → Reaches design outer d → Reaches design inner d
from_outer design a outer inner h k d (here x) = absurd (at_down design a d outer inner h k (drives_at design d outer x))
from_outer design a outer inner h k d (up {outer = o} g l r) = absurd (up_down design a o outer inner g h l k)
from_outer design a outer inner h k d (down {inner = i} g l r) = subst (λ v. Reaches design v d) (down_down design a outer i inner g h l k) r

pin_both : (design : Design) → AreFaultless design.models → (outer inner : Net) → IsPinned design outer inner → Both design outer inner
unfolding Both
pin_both design a outer inner h d = elim (pin_is_known design a outer inner h) as (λ _. (Reaches design outer d → Reaches design inner d) × (Reaches design inner d → Reaches design outer d)) [
  | inl k ↦ ((λ r. up h k r), (λ r. from_inner design a outer inner h k d r))
  | inr k ↦ ((λ r. from_outer design a outer inner h k d r), (λ r. down h k r))
]

joined_both : (design : Design) → AreFaultless design.models → (x y : Net) → Joined design x y → Both design x y
unfolding Both
joined_both design a x y (by_pin h) = pin_both design a x y h
joined_both design a x y itself = λ d. ((λ r. r), (λ r. r))
joined_both design a x y (reversed j) = λ d. let t = joined_both design a y x j d in (t.1, t.0)
joined_both design a x z (followed {b = y} j k) = λ d. let s = joined_both design a x y j d in let t = joined_both design a y z k d in ((λ r. t.0 (s.0 r)), (λ r. s.1 (t.1 r)))

pub at_most_one_driver : FaultlessHaveAtMostOneDriver
unfolding Both
at_most_one_driver design faultless a b d e j x y = one_end design faultless b d e ((joined_both design faultless a b j d).0 (here x)) (here y)
