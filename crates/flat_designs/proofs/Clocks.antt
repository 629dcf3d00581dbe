-- The clock classes of the flat netlist are those of clock nets.
use Rattle.std.proofs.Common.{ℕ, zero, suc, ◌≡◌, ◌≢◌, ◌<◌, ◌⊎◌, inl, inr, List, [], ◌∷◌, Option, Some, None, slice_get, map, option_and_then, option_map, option_to_list, refl, sym, ap, ◌∙◌, subst, arith}
use Rattle.std.specs.Prelude.{Contains, MatchOption}
use Rattle.std.proofs.lemmas.Option.{none-some}
use Rattle.std.proofs.lemmas.Bool.{cases_eq}
use Rattle.netlist_core.specs.declared.model.Trigger.{Trigger}
use Rattle.netlist_core.specs.declared.model.Trigger.TheVariants.{Rise, Fall}
use Rattle.netlist_core.specs.declared.model.Design.{Design}
use Rattle.netlist_core.specs.declared.model.Model.{Model}
use Rattle.netlist_core.specs.declared.model.Port.{Port}
use Rattle.netlist_core.specs.declared.model.LatchRow.{LatchRow}
use Rattle.netlist_core.specs.Names.{Name}
use Rattle.netlist_meaning.specs.Places.{Place, model_at, latch_at, main_ports, main_inputs, main_clocks}
use Rattle.netlist_meaning.specs.Nets.{Net, net_at, IsNet, Joined, followed, IsControl, IsClockNet}
use Rattle.netlist_meaning.specs.Roots.{root}
use Rattle.netlist_rules.specs.Clocks.{HasSameControl, control_word, HasOneClock}
use Rattle.netlist_meaning.proofs.Names.{and_then-from}
use Rattle.netlist_meaning.proofs.InNames.{root_of_top}
use Rattle.netlist_meaning.proofs.Roots.{joined_is_same_root}
use Rattle.netlist_rules.specs.ModelFaults.{AreFaultless}
use Rattle.lists.proofs.Members.{In, in_map, in_mapped, in_from, contains_from, is_in, in_got}
use Rattle.flat_designs.proofs.Faultless.{formals_once}
use Rattle.netlist_core.specs.declared.flat.NetId.{NetId}
use Rattle.netlist_core.specs.declared.flat.FlatPort.{FlatPort}
use Rattle.netlist_core.specs.declared.flat.FlatLatch.{FlatLatch}
use Rattle.netlist_core.specs.declared.flat.Flat.{Flat}
use Rattle.netlist_meaning.specs.Flat.{class_of, IsClockClass, port_classes}
use Rattle.netlist_meaning.specs.FlatOf.{id_of, class_of_net, flat_latch, flat_port, IsFlatOf}
use Rattle.flat_designs.proofs.Names.{latch_name, clock_name, is_net_of, main_port}
use Rattle.flat_designs.proofs.Classes.{class_is, class_joined, joined_class}
use Rattle.flat_designs.proofs.Valuations.{port_kept, latches_of}
use Rattle.flat_designs.proofs.Indices.{IsIndex, At, at_of, index_of, index_less}
use Rattle.flat_designs.proofs.Ports.{not_control, kept_or_control}

-- a latch of a place
pub latch_is : (design : Design) (place : Place) (number : ℕ) (l : LatchRow) → latch_at design place number ≡ Some l → (m : Model) × (model_at design place ≡ Some m) × (slice_get m.latches number ≡ Some l)
latch_is design place number l e = and_then-from (λ (m : Model). slice_get m.latches number) (model_at design place) l e

pub latch_here : (design : Design) (place : Place) (m : Model) (number : ℕ) (l : LatchRow) → model_at design place ≡ Some m → slice_get m.latches number ≡ Some l → latch_at design place number ≡ Some l
latch_here design place m number l is_m e = ap (option_and_then (λ (m : Model). slice_get m.latches number)) is_m ∙ e

pub control_net : (design : Design) (place : Place) (number : ℕ) (l : LatchRow) (name : Name) → latch_at design place number ≡ Some l → l.control ≡ Some name → IsNet design (net_at place name)
control_net design place number l name e c =
    let (m, is_m, is_l) = latch_is design place number l e in
    is_net_of design place m name is_m (latch_name m l name (in_got m.latches number l is_l) (inr (inr (subst (λ o. In name (option_to_list o)) (sym c) (inl refl)))))

-- two latches have one clock, or not
same_kind : (a b : Option Trigger) → (a ≡ b) ⊎ (a ≢ b)
same_kind None None = inl refl
same_kind None (Some b) = inr (λ e. none-some b e)
same_kind (Some a) None = inr (λ e. none-some a (sym e))
same_kind (Some Rise) (Some Rise) = inl refl
same_kind (Some Rise) (Some Fall) = inr (λ e. cc)
same_kind (Some Fall) (Some Rise) = inr (λ e. cc)
same_kind (Some Fall) (Some Fall) = inl refl

same_control : (design : Design) → AreFaultless design.models → (p : Place) (a : Option Name) (q : Place) (b : Option Name)
    → ((name : Name) → a ≡ Some name → IsNet design (net_at p name)) → ((name : Name) → b ≡ Some name → IsNet design (net_at q name)) → HasSameControl design p a q b ⊎ ¬ HasSameControl design p a q b
same_control design faultless p None q None n m = inl tt
same_control design faultless p None q (Some b) n m = inr (λ x. x)
same_control design faultless p (Some a) q None n m = inr (λ x. x)
same_control design faultless p (Some a) q (Some b) n m = elim (cases_eq (class_of_net design (net_at p a)) (class_of_net design (net_at q b))) as (λ _. Joined design (net_at p a) (net_at q b) ⊎ ¬ Joined design (net_at p a) (net_at q b)) [
  | inl same ↦ inl (class_joined design faultless (net_at p a) (net_at q b) (n a refl) (m b refl) same)
  | inr apart ↦ inr (λ j. apart (joined_class design faultless (net_at p a) (net_at q b) j))
]

abbrev pub SameClock : Design → Place → LatchRow → Place → LatchRow → Type 0
SameClock design p a q b = (a.kind ≡ b.kind) × HasSameControl design p a.control q b.control

pub same_clock : (design : Design) → AreFaultless design.models → (p : Place) (k : ℕ) (a : LatchRow) (q : Place) (j : ℕ) (b : LatchRow) → latch_at design p k ≡ Some a → latch_at design q j ≡ Some b
    → SameClock design p a q b ⊎ ¬ SameClock design p a q b
same_clock design faultless p k a q j b is_a is_b = by (same_kind a.kind b.kind) (same_control design faultless p a.control q b.control (λ name e. control_net design p k a name is_a e) (λ name e. control_net design q j b name is_b e))
  where
    by : (a.kind ≡ b.kind) ⊎ (a.kind ≢ b.kind) → HasSameControl design p a.control q b.control ⊎ ¬ HasSameControl design p a.control q b.control → SameClock design p a q b ⊎ ¬ SameClock design p a q b
    by (inl e) (inl c) = inl (e, c)
    by (inl e) (inr n) = inr (λ s. n s.1)
    by (inr n) c = inr (λ s. n s.0)

-- without a fault of clocks all latches have the clock of the first
clocks_below : (design : Design) → AreFaultless design.models → HasOneClock design → (p : Place) (k : ℕ) (a : LatchRow) → latch_at design p k ≡ Some a → IsIndex design latches_of (flat_latch design) p k 0
    → (bound n : ℕ) → n < bound → (q : Place) (j : ℕ) (b : LatchRow) → latch_at design q j ≡ Some b → IsIndex design latches_of (flat_latch design) q j n → SameClock design p a q b
clocks_below design faultless one p k a is_a first zero n less q j b is_b index = absurd (omega arith)
clocks_below design faultless one p k a is_a first (suc bound) n less q j b is_b index =
    by (same_clock design faultless p k a q j b is_a is_b) (λ m l r i c is_c x. clocks_below design faultless one p k a is_a first bound m l r i c is_c x)
  where
    lower : (r : Place) (i : ℕ) (c : LatchRow) → latch_at design r i ≡ Some c → (q : Place) (j n : ℕ) → IsIndex design latches_of (flat_latch design) q j n → Rattle.netlist_meaning.specs.Places.IsBefore r q ⊎ ((r ≡ q) × (i < j)) → (m : ℕ) × IsIndex design latches_of (flat_latch design) r i m × (m < n)
    lower r i c is_c q j n index before =
        let (m, is_m, is_l) = latch_is design r i c is_c in
        let (x, is_x, _) = index_of design faultless latches_of (flat_latch design) r m i c is_m is_l in
        (x, is_x, index_less design latches_of (flat_latch design) r q i j x n m c is_x index is_m is_l before)

    by : SameClock design p a q b ⊎ ¬ SameClock design p a q b → ((m : ℕ) → m < bound → (r : Place) (i : ℕ) (c : LatchRow) → latch_at design r i ≡ Some c → IsIndex design latches_of (flat_latch design) r i m → SameClock design p a r c) → SameClock design p a q b
    by (inl same) rest = same
    by (inr apart) rest = absurd (one b.line (control_word b.control) (record {
      first = record { place = p; number = k; latch = a };
      has_first = is_a;
      is_first = λ other has before. (let (m, _, l) = lower other.place other.number other.latch has p k 0 first before in absurd (omega arith));
      found = record { place = q; number = j; latch = b };
      has_found = is_b;
      differs = λ h. apart (h.same_type, h.same_control);
      agree_before = λ other has before. (let (m, x, l) = lower other.place other.number other.latch has q j n index before in let s = rest m (omega arith) other.place other.number other.latch has x in record { same_type = s.0; same_control = s.1 });
      is_line = refl;
      is_word = refl;
    }))

pub first_clock : (design : Design) → AreFaultless design.models → HasOneClock design → (p : Place) (k : ℕ) (a : LatchRow) → latch_at design p k ≡ Some a → IsIndex design latches_of (flat_latch design) p k 0
    → (q : Place) (j : ℕ) (b : LatchRow) → latch_at design q j ≡ Some b → SameClock design p a q b
first_clock design faultless one p k a is_a first q j b is_b =
    let (m, is_m, is_l) = latch_is design q j b is_b in
    let (n, is_n, _) = index_of design faultless latches_of (flat_latch design) q m j b is_m is_l in
    clocks_below design faultless one p k a is_a first (suc n) n (omega arith) q j b is_b is_n

-- the first flat latch
pub record First (design : Design) (flat : Flat) (l : FlatLatch) : Type 0 where
  pub place : Place
  pub number : ℕ
  pub latch : LatchRow
  pub has_latch : latch_at design place number ≡ Some latch
  pub is_latch : flat_latch design place latch ≡ l
  pub index : IsIndex design latches_of (flat_latch design) place number 0

pub first_is : (design : Design) (flat : Flat) → IsFlatOf design flat → (l : FlatLatch) → slice_get flat.latches 0 ≡ Some l → First design flat l
first_is design flat h l e =
    let r : At design latches_of (flat_latch design) 0 l = at_of design latches_of (flat_latch design) 0 l (ap (λ (ls : List FlatLatch). slice_get ls 0) (sym h.latches) ∙ e) in
    record { place = r.place; number = r.number; latch = r.item; has_latch = latch_here design r.place r.model r.number r.item r.has_model r.has_item; is_latch = r.is_value; index = r.index }

abbrev IsControlClass : Flat → ℕ → Option NetId → Type 0
IsControlClass flat class control = MatchOption control ⊥ (λ net. class_of flat net ≡ class)

pub control_class : (design : Design) (flat : Flat) → AreFaultless design.models → HasOneClock design → IsFlatOf design flat → (net : Net) → IsControl design net → IsControlClass flat (class_of_net design net) flat.control
control_class design flat faultless one h net (source, c, joined) =
    subst (IsControlClass flat (class_of_net design net)) (sym h.control) (by (slice_get flat.latches 0) refl)
  where
    there : (xs : List FlatLatch) (n : ℕ) (x : FlatLatch) → slice_get xs n ≡ Some x → slice_get xs 0 ≡ None → ⊥
    there [] n x e g = none-some x e
    there (y ∷ ys) n x e g = none-some y (sym g)

    named : (p : Place) (k : ℕ) (l : LatchRow) → latch_at design p k ≡ Some l → (o : Option Name) → l.control ≡ o → HasSameControl design p o source.place (Some source.name) → IsControlClass flat (class_of_net design net) (option_map (id_of design p) o)
    named p k l is_l None e s = s
    named p k l is_l (Some name) e s = class_is design flat faultless h (net_at p name) (control_net design p k l name is_l e) ∙ joined_class design faultless (net_at p name) net (followed s joined)

    by : (o : Option FlatLatch) → slice_get flat.latches 0 ≡ o → IsControlClass flat (class_of_net design net) (option_and_then (λ (l : FlatLatch). l.control) o)
    by None e =
        let (m, is_m, is_l) = latch_is design source.place c.number c.latch c.has_latch in
        let (n, _, is_n) = index_of design faultless latches_of (flat_latch design) source.place m c.number c.latch is_m is_l in
        absurd (there flat.latches n (flat_latch design source.place c.latch) (ap (λ (ls : List FlatLatch). slice_get ls n) h.latches ∙ is_n) e)
    by (Some l) e =
        let r : First design flat l = first_is design flat h l e in
        let s = first_clock design faultless one r.place r.number r.latch r.has_latch r.index source.place c.number c.latch c.has_latch in
        subst (λ (v : FlatLatch). IsControlClass flat (class_of_net design net) v.control) r.is_latch
        (named r.place r.number r.latch r.has_latch r.latch.control refl (subst (λ o. HasSameControl design r.place r.latch.control source.place o) c.has_control s.1))

-- a class of the main clocks
pub port_class : (design : Design) (flat : Flat) (ports : List Port) (flat_ports : List FlatPort) (class : ℕ) → flat_ports ≡ map (flat_port design) ports → Contains (port_classes flat flat_ports) class
    → (p : Port) × In p ports × (class_of flat (id_of design [] p.name) ≡ class)
port_class design flat ports flat_ports class e c =
    let (x, i, g) = in_mapped (λ (port : FlatPort). class_of flat port.net) (map (flat_port design) ports) class (in_from _ class (subst (λ ps. Contains (port_classes flat ps) class) e c)) in
    let (p, j, k) = in_mapped (flat_port design) ports x i in
    (p, j, sym (g ∙ ap (λ (port : FlatPort). class_of flat port.net) k))

pub has_port_class : (design : Design) (flat : Flat) (ports : List Port) (flat_ports : List FlatPort) (p : Port) → flat_ports ≡ map (flat_port design) ports → In p ports → Contains (port_classes flat flat_ports) (class_of flat (id_of design [] p.name))
has_port_class design flat ports flat_ports p e i =
    subst (λ ps. Contains (port_classes flat ps) (class_of flat (id_of design [] p.name))) (sym e)
    (contains_from (port_classes flat (map (flat_port design) ports)) (class_of flat (id_of design [] p.name)) (in_map (λ (port : FlatPort). class_of flat port.net) (map (flat_port design) ports) (flat_port design p) (in_map (flat_port design) ports p i)))

-- a net of a clock class is a clock net
pub clock_class : (design : Design) (flat : Flat) → AreFaultless design.models → IsFlatOf design flat → (net : Net) → IsNet design net → IsClockClass flat (class_of_net design net) → IsClockNet design net
clock_class design flat faultless h net n (inl c) = by (slice_get flat.latches 0) refl (subst (IsControlClass flat (class_of_net design net)) h.control c)
  where
    named : (p : Place) (k : ℕ) (l : LatchRow) → latch_at design p k ≡ Some l → (o : Option Name) → l.control ≡ o → IsControlClass flat (class_of_net design net) (option_map (id_of design p) o) → IsClockNet design net
    named p k l is_l None e s = absurd s
    named p k l is_l (Some name) e s =
        let m : IsNet design (net_at p name) = control_net design p k l name is_l e in
        (net_at p name, inl (record { number = k; latch = l; has_latch = is_l; has_control = e }), class_joined design faultless (net_at p name) net m n (sym (class_is design flat faultless h (net_at p name) m) ∙ s))

    by : (o : Option FlatLatch) → slice_get flat.latches 0 ≡ o → IsControlClass flat (class_of_net design net) (option_and_then (λ (l : FlatLatch). l.control) o) → IsClockNet design net
    by None e s = absurd s
    by (Some l) e s =
        let r : First design flat l = first_is design flat h l e in
        named r.place r.number r.latch r.has_latch r.latch.control refl (subst (λ (v : FlatLatch). IsControlClass flat (class_of_net design net) v.control) (sym r.is_latch) s)
clock_class design flat faultless h net n (inr (c, away)) =
    let (p, i, e) = port_class design flat (main_ports (λ (m : Model). m.clocks) design) flat.clocks (class_of_net design net) h.clocks c in
    let (m, _, is_m, j) = main_port design (λ (m : Model). m.clocks) p i in
    let k : IsNet design (net_at [] p.name) = is_net_of design [] m p.name is_m (clock_name m p j) in
    let joined : Joined design (net_at [] p.name) net = class_joined design faultless (net_at [] p.name) net k n (sym (class_is design flat faultless h (net_at [] p.name) k) ∙ e) in
    by p i e joined (is_in p.name (main_inputs design))
  where
    by : (p : Port) → In p (main_ports (λ (m : Model). m.clocks) design) → class_of flat (id_of design [] p.name) ≡ class_of_net design net → Joined design (net_at [] p.name) net → In p.name (main_inputs design) ⊎ ¬ In p.name (main_inputs design) → IsClockNet design net
    by p i e joined (inr none) = (net_at [] p.name, inr (record { is_main = refl; is_clock = contains_from (main_clocks design) p.name (in_map (λ (q : Port). q.name) (main_ports (λ (m : Model). m.clocks) design) p i); is_no_input = λ c. none (in_from (main_inputs design) p.name c) }), joined)
    by p i e joined (inl some) =
        let (q, j, same) = in_mapped (λ (q : Port). q.name) (main_ports (λ (m : Model). m.ins) design) p.name some in
        by_input p q e joined same (kept_or_control design (main_ports (λ (m : Model). m.ins) design) h.in_ports q h.are_in_ports j)
      where
        by_input : (p q : Port) → class_of flat (id_of design [] p.name) ≡ class_of_net design net → Joined design (net_at [] p.name) net → p.name ≡ q.name → In q h.in_ports ⊎ IsControl design (net_at [] q.name) → IsClockNet design net
        by_input p q e joined same (inl i) = absurd (away (subst (λ class. Contains (port_classes flat flat.ins) class) (ap (λ name. class_of flat (id_of design [] name)) (sym same) ∙ e) (has_port_class design flat h.in_ports flat.ins q h.ins i)))
        by_input p q e joined same (inr (source, control, j)) = (source, inl control, followed j (subst (λ name. Joined design (net_at [] name) net) same joined))

-- an IN name is no clock net
pub in_port_no_clock : (design : Design) (flat : Flat) → AreFaultless design.models → (h : IsFlatOf design flat) (p : Port) → In p h.in_ports → ¬ IsClockNet design (net_at [] p.name)
in_port_no_clock design flat faultless h p i (source, inl control, joined) = not_control design (main_ports (λ (m : Model). m.ins) design) h.in_ports p h.are_in_ports i (source, control, joined)
in_port_no_clock design flat faultless h p i (source, inr clock, joined) =
    let is_top : net_at [] source.name ≡ source = ap (λ q. net_at q source.name) (sym clock.is_main) in
    let same : net_at [] source.name ≡ net_at [] p.name =
    sym (root_of_top design source.name) ∙ ap (root design) is_top ∙ (joined_is_same_root design (formals_once design faultless) source (net_at [] p.name)).0 joined ∙ root_of_top design p.name in
    clock.is_no_input (contains_from (main_inputs design) source.name (subst (λ name. In name (main_inputs design)) (sym (ap (λ (n : Net). n.name) same)) (in_map (λ (q : Port). q.name) (main_ports (λ (m : Model). m.ins) design) p (port_kept design (main_ports (λ (m : Model). m.ins) design) h.in_ports p h.are_in_ports i))))
