-- The two faults of clocks are those of the flat netlist.
use Rattle.std.proofs.Common.{ℕ, zero, suc, ◌≡◌, ◌<◌, ◌⊎◌, inl, inr, List, [], ◌∷◌, ◌++◌, Option, Some, None, slice_get, map, option_map, refl, sym, ap, ◌∙◌, subst, arith}
use Rattle.std.specs.Prelude.{Contains}
use Rattle.std.proofs.lemmas.List.{map-append}
use Rattle.std.proofs.lemmas.Option.{none-some, slice_get-map}
use Rattle.std.proofs.lemmas.Bool.{cases_order}
use Rattle.netlist_core.specs.declared.model.Design.{Design}
use Rattle.netlist_core.specs.declared.model.Model.{Model}
use Rattle.netlist_core.specs.declared.model.Port.{Port}
use Rattle.netlist_core.specs.declared.model.LatchRow.{LatchRow}
use Rattle.netlist_core.specs.Names.{Name}
use Rattle.netlist_meaning.specs.Places.{Place, latch_at, main_ports, main_inputs, main_clocks, IsBefore}
use Rattle.netlist_meaning.specs.Nets.{Net, net_at, IsNet, IsClockNet}
use Rattle.netlist_meaning.specs.Roots.{root}
use Rattle.netlist_rules.specs.Clocks.{HasSameControl, control_word, IsTwoClocks, HasOneClock, IsUse, by_cover, by_latch, by_main_output, IsClockRead}
use Rattle.netlist_meaning.proofs.InNames.{root_of_top}
use Rattle.netlist_meaning.proofs.Roots.{joined_is_same_root}
use Rattle.netlist_meaning.proofs.PlaceOrder.{places_are_ordered}
use Rattle.netlist_rules.specs.ModelFaults.{AreFaultless}
use Rattle.lists.proofs.Members.{In, in_left, in_map, in_mapped, in_from, contains_from, in_got}
use Rattle.flat_designs.proofs.Faultless.{formals_once}
use Rattle.netlist_core.specs.declared.flat.NetId.{NetId}
use Rattle.netlist_core.specs.declared.flat.FlatPort.{FlatPort}
use Rattle.netlist_core.specs.declared.flat.FlatLatch.{FlatLatch}
use Rattle.netlist_core.specs.declared.flat.Node.{Node}
use Rattle.netlist_core.specs.declared.flat.Flat.{Flat}
use Rattle.netlist_meaning.specs.Flat.{class_of, IsClockClass, port_classes, name_of_net}
use Rattle.netlist_meaning.specs.InOrder.{nets_in_order}
use Rattle.netlist_meaning.specs.FlatOf.{position_of, id_of, class_of_net, flat_node, flat_latch, flat_port, IsFlatOf}
use Rattle.netlist_core.specs.declared.flat.Net.{Net as FlatNet}
use Rattle.flat_designs.specs.ClockLaws.{ClockClassesAreClockNets, TwoClocksAreFlat, ClockReadIsFlat, ClockFaultsAreFlat}
use Rattle.netlist_rules.specs.Clocks.{IsClockFault}
use Rattle.netlist_rules.specs.declared.fault.Fault.{Fault}
use Rattle.netlist_rules.specs.FlatClocks.{IsFlatClockFault, by_node, by_data, by_output, HasSameFlatControl, HasSameFlatClock, flat_control_word, IsFlatTwoClocks, IsFlatUse, IsFlatClockUse, IsFlatClockRead}
use Rattle.flat_designs.proofs.Lists.{in_some_map}
use Rattle.flat_designs.proofs.Names.{output_name, clock_name, cover_name, latch_name, is_net_of}
use Rattle.flat_designs.proofs.Classes.{net_there, flat_net_at, class_is, class_joined, joined_class}
use Rattle.flat_designs.proofs.Valuations.{is_placed, in_port_net, port_kept, latches_of}
use Rattle.flat_designs.proofs.Indices.{IsIndex, At, at_of, index_of, index_less, one_index}
use Rattle.flat_designs.proofs.Clocks.{latch_is, latch_here, control_net, control_class, clock_class, port_class, has_port_class, SameClock}
use Rattle.flat_designs.proofs.Sound.{main_net, LatchIs, latch_of, CoverIs, cover_of}

-- a clock net is of a clock class
clock_net : (design : Design) (flat : Flat) → AreFaultless design.models → HasOneClock design → IsFlatOf design flat → (net : Net) → IsClockNet design net → IsClockClass flat (class_of_net design net)
clock_net design flat faultless one h net (source, inl control, joined) = inl (control_class design flat faultless one h net (source, control, joined))
clock_net design flat faultless one h net (source, inr clock, joined) =
    let is_top : net_at [] source.name ≡ source = ap (λ q. net_at q source.name) (sym clock.is_main) in
    let (p, i, e) = in_mapped (λ (q : Port). q.name) (main_ports (λ (m : Model). m.clocks) design) source.name (in_from (main_clocks design) source.name clock.is_clock) in
    let n : IsNet design (net_at [] p.name) = main_net design (λ (m : Model). m.clocks) clock_name p i in
    let same : class_of flat (id_of design [] p.name) ≡ class_of_net design net = class_is design flat faultless h (net_at [] p.name) n ∙ ap (class_of_net design) (ap (net_at []) (sym e) ∙ is_top) ∙ joined_class design faultless source net joined in
    inr (subst (λ class. Contains (port_classes flat flat.clocks) class) same (has_port_class design flat (main_ports (λ (m : Model). m.clocks) design) flat.clocks p h.clocks i), away is_top)
  where
    away : net_at [] source.name ≡ source → ¬ Contains (port_classes flat flat.ins) (class_of_net design net)
    away is_top c =
        let (p, i, e) = port_class design flat h.in_ports flat.ins (class_of_net design net) h.ins c in
        let n : IsNet design (net_at [] p.name) = in_port_net design flat h p i in
        let roots : root design source ≡ root design (net_at [] p.name) = same_roots p n e in
        let name : source.name ≡ p.name = ap (λ (v : Net). v.name) (sym (root_of_top design source.name) ∙ ap (root design) is_top ∙ roots ∙ root_of_top design p.name) in
        clock.is_no_input (contains_from (main_inputs design) source.name (subst (λ v. In v (main_inputs design)) (sym name) (in_map (λ (q : Port). q.name) (main_ports (λ (m : Model). m.ins) design) p (port_kept design (main_ports (λ (m : Model). m.ins) design) h.in_ports p h.are_in_ports i))))
      where
        source_net : IsNet design source
        source_net =
            let (p, i, e) = in_mapped (λ (q : Port). q.name) (main_ports (λ (m : Model). m.clocks) design) source.name (in_from (main_clocks design) source.name clock.is_clock) in
            subst (IsNet design) (ap (net_at []) (sym e) ∙ is_top) (main_net design (λ (m : Model). m.clocks) clock_name p i)

        same_roots : (p : Port) → IsNet design (net_at [] p.name) → class_of flat (id_of design [] p.name) ≡ class_of_net design net → root design source ≡ root design (net_at [] p.name)
        same_roots p n e =
            (joined_is_same_root design (formals_once design faultless) source (net_at [] p.name)).0
            (class_joined design faultless source (net_at [] p.name) source_net n (joined_class design faultless source net joined ∙ sym e ∙ class_is design flat faultless h (net_at [] p.name) n))

pub clock_classes_are_clock_nets : ClockClassesAreClockNets
clock_classes_are_clock_nets design flat faultless one h net n = (
  (λ c. clock_class design flat faultless h net n (subst (IsClockClass flat) (class_is design flat faultless h net n) c)),
  (λ c. subst (IsClockClass flat) (sym (class_is design flat faultless h net n)) (clock_net design flat faultless one h net c)),
)

-- the name of a net
name_is : (design : Design) (flat : Flat) → AreFaultless design.models → IsFlatOf design flat → (net : Net) → IsNet design net → name_of_net flat (id_of design net.place net.name) ≡ net.name
name_is design flat faultless h net n = ap (λ (x : FlatNet). x.name) (flat_net_at design flat h (position_of (nets_in_order design) net) net (net_there design faultless net n))

-- latches of one clock
control_flat : (design : Design) (flat : Flat) → AreFaultless design.models → IsFlatOf design flat → (p : Place) (a : Option Name) (q : Place) (b : Option Name)
    → ((name : Name) → a ≡ Some name → IsNet design (net_at p name)) → ((name : Name) → b ≡ Some name → IsNet design (net_at q name)) → HasSameControl design p a q b → HasSameFlatControl flat (option_map (id_of design p) a) (option_map (id_of design q) b)
control_flat design flat faultless h p None q None n m s = tt
control_flat design flat faultless h p None q (Some b) n m s = s
control_flat design flat faultless h p (Some a) q None n m s = s
control_flat design flat faultless h p (Some a) q (Some b) n m s = class_is design flat faultless h (net_at p a) (n a refl) ∙ joined_class design faultless (net_at p a) (net_at q b) s ∙ sym (class_is design flat faultless h (net_at q b) (m b refl))

flat_control : (design : Design) (flat : Flat) → AreFaultless design.models → IsFlatOf design flat → (p : Place) (a : Option Name) (q : Place) (b : Option Name)
    → ((name : Name) → a ≡ Some name → IsNet design (net_at p name)) → ((name : Name) → b ≡ Some name → IsNet design (net_at q name)) → HasSameFlatControl flat (option_map (id_of design p) a) (option_map (id_of design q) b) → HasSameControl design p a q b
flat_control design flat faultless h p None q None n m s = tt
flat_control design flat faultless h p None q (Some b) n m s = s
flat_control design flat faultless h p (Some a) q None n m s = s
flat_control design flat faultless h p (Some a) q (Some b) n m s = class_joined design faultless (net_at p a) (net_at q b) (n a refl) (m b refl) (sym (class_is design flat faultless h (net_at p a) (n a refl)) ∙ s ∙ class_is design flat faultless h (net_at q b) (m b refl))

word_is : (design : Design) (flat : Flat) → AreFaultless design.models → IsFlatOf design flat → (p : Place) (a : Option Name) → ((name : Name) → a ≡ Some name → IsNet design (net_at p name)) → control_word a ≡ flat_control_word flat (option_map (id_of design p) a)
word_is design flat faultless h p None n = refl
word_is design flat faultless h p (Some a) n = sym (name_is design flat faultless h (net_at p a) (n a refl))

-- a latch of a place with its position
pub record Latch (design : Design) (n : ℕ) (x : FlatLatch) : Type 0 where
  pub place : Place
  pub number : ℕ
  pub latch : LatchRow
  pub has_latch : latch_at design place number ≡ Some latch
  pub is_value : flat_latch design place latch ≡ x
  pub index : IsIndex design latches_of (flat_latch design) place number n

latch_number : (design : Design) (flat : Flat) → IsFlatOf design flat → (n : ℕ) (x : FlatLatch) → slice_get flat.latches n ≡ Some x → Latch design n x
latch_number design flat h n x e =
    let r : At design latches_of (flat_latch design) n x = at_of design latches_of (flat_latch design) n x (ap (λ (ls : List FlatLatch). slice_get ls n) (sym h.latches) ∙ e) in
    record { place = r.place; number = r.number; latch = r.item; has_latch = latch_here design r.place r.model r.number r.item r.has_model r.has_item; is_value = r.is_value; index = r.index }

number_latch : (design : Design) (flat : Flat) → AreFaultless design.models → IsFlatOf design flat → (p : Place) (k : ℕ) (l : LatchRow) → latch_at design p k ≡ Some l → (n : ℕ) × IsIndex design latches_of (flat_latch design) p k n × (slice_get flat.latches n ≡ Some (flat_latch design p l))
number_latch design flat faultless h p k l e =
    let (m, is_m, is_l) = latch_is design p k l e in
    let (n, index, is_n) = index_of design faultless latches_of (flat_latch design) p m k l is_m is_l in
    (n, index, ap (λ (ls : List FlatLatch). slice_get ls n) h.latches ∙ is_n)

less : (design : Design) (p q : Place) (k j n m : ℕ) (l : LatchRow) → IsIndex design latches_of (flat_latch design) p k n → IsIndex design latches_of (flat_latch design) q j m → latch_at design p k ≡ Some l → IsBefore p q ⊎ ((p ≡ q) × (k < j)) → n < m
less design p q k j n m l a b e before = let (model, is_m, is_l) = latch_is design p k l e in index_less design latches_of (flat_latch design) p q k j n m model l a b is_m is_l before

-- of lower position is what comes before
before_of : (design : Design) (p q : Place) (k j n m : ℕ) (a b : LatchRow) → IsIndex design latches_of (flat_latch design) p k n → IsIndex design latches_of (flat_latch design) q j m → latch_at design p k ≡ Some a → latch_at design q j ≡ Some b → n < m → IsBefore p q ⊎ ((p ≡ q) × (k < j))
before_of design p q k j n m a b x y is_a is_b l = by (places_are_ordered.one_of_three p q) (cases_order k j)
  where
    by : IsBefore p q ⊎ (p ≡ q) ⊎ IsBefore q p → (k ≡ j) ⊎ ((k < j) ⊎ (j < k)) → IsBefore p q ⊎ ((p ≡ q) × (k < j))
    by (inl before) o = inl before
    by (inr (inl same)) (inr (inl o)) = inr (same, o)
    by (inr (inl same)) (inl o) = absurd (let e : n ≡ m = one_index design latches_of (flat_latch design) p q k j n m x y same o in omega arith)
    by (inr (inl same)) (inr (inr o)) = absurd (let e : m < n = less design q p j k m n b y x is_b (inr (sym same, o)) in omega arith)
    by (inr (inr after)) o = absurd (let e : m < n = less design q p j k m n b y x is_b (inl after) in omega arith)

to_flat : (design : Design) (flat : Flat) → AreFaultless design.models → IsFlatOf design flat → (p : Place) (k : ℕ) (a : LatchRow) (q : Place) (j : ℕ) (b : LatchRow) → latch_at design p k ≡ Some a → latch_at design q j ≡ Some b → SameClock design p a q b → HasSameFlatClock flat (flat_latch design p a) (flat_latch design q b)
to_flat design flat faultless h p k a q j b is_a is_b s = (s.0, control_flat design flat faultless h p a.control q b.control (λ name e. control_net design p k a name is_a e) (λ name e. control_net design q j b name is_b e) s.1)

to_design : (design : Design) (flat : Flat) → AreFaultless design.models → IsFlatOf design flat → (p : Place) (k : ℕ) (a : LatchRow) (q : Place) (j : ℕ) (b : LatchRow) → latch_at design p k ≡ Some a → latch_at design q j ≡ Some b → HasSameFlatClock flat (flat_latch design p a) (flat_latch design q b) → SameClock design p a q b
to_design design flat faultless h p k a q j b is_a is_b s = (s.0, flat_control design flat faultless h p a.control q b.control (λ name e. control_net design p k a name is_a e) (λ name e. control_net design q j b name is_b e) s.1)

pub two_clocks_are_flat : TwoClocksAreFlat
two_clocks_are_flat design flat faultless h line word = (to, back)
  where
    to : IsTwoClocks design line word → IsFlatTwoClocks flat line word
    to t =
        let (n, index_n, is_n) = number_latch design flat faultless h t.first.place t.first.number t.first.latch t.has_first in
        let (m, index_m, is_m) = number_latch design flat faultless h t.found.place t.found.number t.found.latch t.has_found in
        let none_before : (k : ℕ) (x : FlatLatch) → slice_get flat.latches k ≡ Some x → k < n → ⊥ = λ k x e l.
        let r : Latch design k x = latch_number design flat h k x e in
        t.is_first (record { place = r.place; number = r.number; latch = r.latch }) r.has_latch
        (before_of design r.place t.first.place r.number t.first.number k n r.latch t.first.latch r.index index_n r.has_latch t.has_first l) in
        let zero_first : n ≡ 0 = at_front flat.latches n (flat_latch design t.first.place t.first.latch) is_n none_before in
        record {
          first = flat_latch design t.first.place t.first.latch;
          found = flat_latch design t.found.place t.found.latch;
          number = m;
          is_first = ap (slice_get flat.latches) (sym zero_first) ∙ is_n;
          is_found = is_m;
          differs = λ s. (let d = to_design design flat faultless h t.first.place t.first.number t.first.latch t.found.place t.found.number t.found.latch t.has_first t.has_found s in t.differs (record { same_type = d.0; same_control = d.1 }));
          agree_before = λ k x l e. (
              let r : Latch design k x = latch_number design flat h k x e in
              let s = t.agree_before (record { place = r.place; number = r.number; latch = r.latch }) r.has_latch (before_of design r.place t.found.place r.number t.found.number k m r.latch t.found.latch r.index index_m r.has_latch t.has_found l) in
              subst (HasSameFlatClock flat (flat_latch design t.first.place t.first.latch)) r.is_value
              (to_flat design flat faultless h t.first.place t.first.number t.first.latch r.place r.number r.latch t.has_first r.has_latch (s.same_type, s.same_control)));
          is_line = t.is_line;
          is_word = t.is_word ∙ word_is design flat faultless h t.found.place t.found.latch.control (λ name e. control_net design t.found.place t.found.number t.found.latch name t.has_found e);
        }
      where
        at_front : (xs : List FlatLatch) (n : ℕ) (x : FlatLatch) → slice_get xs n ≡ Some x → ((k : ℕ) (y : FlatLatch) → slice_get xs k ≡ Some y → k < n → ⊥) → n ≡ 0
        at_front xs zero x e never = refl
        at_front [] (suc n) x e never = absurd (none-some x e)
        at_front (y ∷ xs) (suc n) x e never = absurd (never 0 y refl (omega arith))

    back : IsFlatTwoClocks flat line word → IsTwoClocks design line word
    back t =
        let f : Latch design 0 t.first = latch_number design flat h 0 t.first t.is_first in
        let g : Latch design t.number t.found = latch_number design flat h t.number t.found t.is_found in
        record {
          first = record { place = f.place; number = f.number; latch = f.latch };
          has_first = f.has_latch;
          is_first = λ other has before. (
              let (k, index, is_k) = number_latch design flat faultless h other.place other.number other.latch has in
              let l : k < 0 = less design other.place f.place other.number f.number k 0 other.latch index f.index has before in
              absurd (omega arith));
          found = record { place = g.place; number = g.number; latch = g.latch };
          has_found = g.has_latch;
          differs = λ s. t.differs (subst (λ x. HasSameFlatClock flat x t.found) f.is_value (subst (HasSameFlatClock flat (flat_latch design f.place f.latch)) g.is_value
              (to_flat design flat faultless h f.place f.number f.latch g.place g.number g.latch f.has_latch g.has_latch (s.same_type, s.same_control))));
          agree_before = λ other has before. (
              let (k, index, is_k) = number_latch design flat faultless h other.place other.number other.latch has in
              let l : k < t.number = less design other.place g.place other.number g.number k t.number other.latch index g.index has before in
              let s = t.agree_before k (flat_latch design other.place other.latch) l is_k in
              let d = to_design design flat faultless h f.place f.number f.latch other.place other.number other.latch f.has_latch has (subst (λ x. HasSameFlatClock flat x (flat_latch design other.place other.latch)) (sym f.is_value) s) in
              record { same_type = d.0; same_control = d.1 });
          is_line = t.is_line ∙ ap (λ (x : FlatLatch). x.line) (sym g.is_value);
          is_word = t.is_word ∙ ap (λ (x : FlatLatch). flat_control_word flat x.control) (sym g.is_value) ∙ sym (word_is design flat faultless h g.place g.latch.control (λ name e. control_net design g.place g.number g.latch name g.has_latch e));
        }

-- uses
pub record Used (design : Design) (flat : Flat) (line position : ℕ) (id : NetId) : Type 0 where
  pub net : Net
  pub is_net : IsNet design net
  pub is_id : id ≡ id_of design net.place net.name
  pub is_use : IsUse design line position net

use_design : (design : Design) (flat : Flat) → AreFaultless design.models → IsFlatOf design flat → (line position : ℕ) (id : NetId) → IsFlatUse flat line position id → Used design flat line position id
use_design design flat faultless h line position id (by_node {node = x} c e) =
    let r : CoverIs design x = cover_of design flat h x (in_from flat.nodes x c) in
    let e' : slice_get (map (id_of design r.place) (r.cover.ins ++ r.cover.out ∷ [])) position ≡ Some id = ap (λ xs. slice_get xs position) (map-append (id_of design r.place) r.cover.ins (r.cover.out ∷ [])) ∙ ap (λ (v : Node). slice_get (v.ins ++ v.out ∷ []) position) (sym r.is_value) ∙ e in
    let (name, is_name, same) = in_some_map (id_of design r.place) (slice_get (r.cover.ins ++ r.cover.out ∷ []) position) id (sym (slice_get-map (id_of design r.place) (r.cover.ins ++ r.cover.out ∷ []) position) ∙ e') in
    record {
      net = net_at r.place name;
      is_net = is_net_of design r.place r.model name r.has_model (cover_name r.model r.cover name r.has_cover (in_got (r.cover.ins ++ r.cover.out ∷ []) position name is_name));
      is_id = sym same;
      is_use = subst (λ n. IsUse design n position (net_at r.place name)) (ap (λ (v : Node). v.line) (sym r.is_value)) (by_cover r.has_model (contains_from r.model.covers r.cover r.has_cover) is_name);
    }
use_design design flat faultless h line position id (by_data {latch = x} c e) =
    let r : LatchIs design x = latch_of design flat h x (in_from flat.latches x c) in
    let e' : slice_get (map (id_of design r.place) (r.latch.input ∷ r.latch.output ∷ [])) position ≡ Some id = ap (λ (v : FlatLatch). slice_get (v.input ∷ v.output ∷ []) position) (sym r.is_value) ∙ e in
    let (name, is_name, same) = in_some_map (id_of design r.place) (slice_get (r.latch.input ∷ r.latch.output ∷ []) position) id (sym (slice_get-map (id_of design r.place) (r.latch.input ∷ r.latch.output ∷ []) position) ∙ e') in
    record {
      net = net_at r.place name;
      is_net = is_net_of design r.place r.model name r.has_model (latch_name r.model r.latch name r.has_latch (in_left (r.latch.input ∷ r.latch.output ∷ []) (Rattle.std.specs.Prelude.option_to_list r.latch.control) name (in_got (r.latch.input ∷ r.latch.output ∷ []) position name is_name)));
      is_id = sym same;
      is_use = subst (λ n. IsUse design n position (net_at r.place name)) (ap (λ (v : FlatLatch). v.line) (sym r.is_value)) (by_latch r.has_model (contains_from r.model.latches r.latch r.has_latch) is_name);
    }
use_design design flat faultless h line position id (by_output {port = x} e) =
    let (p, is_p, same) = in_some_map (flat_port design) (slice_get (main_ports (λ (m : Model). m.outs) design) position) x (sym (slice_get-map (flat_port design) (main_ports (λ (m : Model). m.outs) design) position) ∙ ap (λ (ps : List FlatPort). slice_get ps position) (sym h.outs) ∙ e) in
    record {
      net = net_at [] p.name;
      is_net = main_net design (λ (m : Model). m.outs) output_name p (in_got (main_ports (λ (m : Model). m.outs) design) position p is_p);
      is_id = ap (λ (v : FlatPort). v.net) (sym same);
      is_use = subst (λ n. IsUse design n position (net_at [] p.name)) (ap (λ (v : FlatPort). v.line) same) (by_main_output is_p);
    }

use_flat : (design : Design) (flat : Flat) → AreFaultless design.models → IsFlatOf design flat → (line position : ℕ) (net : Net) → IsUse design line position net → IsNet design net × IsFlatUse flat line position (id_of design net.place net.name)
use_flat design flat faultless h line position net (by_cover {place = place} {model = m} {cover = c} {name = name} is_m has e) =
    let i : In c m.covers = in_from m.covers c has in
    let j : In (flat_node design place c) flat.nodes = subst (λ ns. In (flat_node design place c) ns) (sym h.nodes) (is_placed design faultless (λ (m : Model). m.covers) (flat_node design) place m c is_m i) in (
      is_net_of design place m name is_m (cover_name m c name i (in_got (c.ins ++ c.out ∷ []) position name e)),
      by_node (contains_from flat.nodes (flat_node design place c) j) (ap (λ xs. slice_get xs position) (sym (map-append (id_of design place) c.ins (c.out ∷ []))) ∙ slice_get-map (id_of design place) (c.ins ++ c.out ∷ []) position ∙ ap (option_map (id_of design place)) e),
    )
use_flat design flat faultless h line position net (by_latch {place = place} {model = m} {latch = l} {name = name} is_m has e) =
    let i : In l m.latches = in_from m.latches l has in
    let j : In (flat_latch design place l) flat.latches = subst (λ ns. In (flat_latch design place l) ns) (sym h.latches) (is_placed design faultless latches_of (flat_latch design) place m l is_m i) in (
      is_net_of design place m name is_m (latch_name m l name i (in_left (l.input ∷ l.output ∷ []) (Rattle.std.specs.Prelude.option_to_list l.control) name (in_got (l.input ∷ l.output ∷ []) position name e))),
      by_data (contains_from flat.latches (flat_latch design place l) j) (slice_get-map (id_of design place) (l.input ∷ l.output ∷ []) position ∙ ap (option_map (id_of design place)) e),
    )
use_flat design flat faultless h line position net (by_main_output {port = p} e) = (
  main_net design (λ (m : Model). m.outs) output_name p (in_got (main_ports (λ (m : Model). m.outs) design) position p e),
  by_output (ap (λ (ps : List FlatPort). slice_get ps position) h.outs ∙ slice_get-map (flat_port design) (main_ports (λ (m : Model). m.outs) design) position ∙ ap (option_map (flat_port design)) e),
)

pub clock_read_is_flat : ClockReadIsFlat
clock_read_is_flat design flat faultless one h line word = (to, back)
  where
    clock_use : (l p : ℕ) (id : NetId) → IsFlatClockUse flat l p id → (net : Net) × (id ≡ id_of design net.place net.name) × IsNet design net × IsUse design l p net × IsClockNet design net
    clock_use l p id u =
        let r : Used design flat l p id = use_design design flat faultless h l p id u.0 in
        (r.net, r.is_id, r.is_net, r.is_use, (clock_classes_are_clock_nets design flat faultless one h r.net r.is_net).0 (subst (λ v. IsClockClass flat (class_of flat v)) r.is_id u.1))

    flat_use : (l p : ℕ) (net : Net) → IsUse design l p net → IsClockNet design net → IsNet design net × IsFlatClockUse flat l p (id_of design net.place net.name)
    flat_use l p net u c =
        let (n, f) = use_flat design flat faultless h l p net u in
        (n, (f, (clock_classes_are_clock_nets design flat faultless one h net n).1 c))

    to : IsClockRead design line word → IsFlatClockRead flat line word
    to r =
        let (n, u) = flat_use line r.position r.net r.is_use.0 r.is_use.1 in
        record {
          position = r.position;
          id = id_of design r.net.place r.net.name;
          is_use = u;
          is_earliest = λ l p id v. (let (net, e, m, w, c) = clock_use l p id v in r.is_earliest l p net (w, c));
          is_word = r.is_word ∙ sym (name_is design flat faultless h r.net n);
        }

    back : IsFlatClockRead flat line word → IsClockRead design line word
    back r =
        let (net, e, n, u, c) = clock_use line r.position r.id r.is_use in
        record {
          position = r.position;
          net = net;
          is_use = (u, c);
          is_earliest = λ l p other v. (let (m, w) = flat_use l p other v.0 v.1 in r.is_earliest l p (id_of design other.place other.name) w);
          is_word = r.is_word ∙ ap (name_of_net flat) e ∙ name_is design flat faultless h net n;
        }

pub clock_faults_are_flat : ClockFaultsAreFlat
clock_faults_are_flat design flat faultless h fault = (to, back)
  where
    to : {f : Fault} → IsClockFault design f → IsFlatClockFault flat f
    to (Rattle.netlist_rules.specs.Clocks.IsClockFault.two_clocks {line = l} {word = w} t) = Rattle.netlist_rules.specs.FlatClocks.IsFlatClockFault.two_clocks ((two_clocks_are_flat design flat faultless h l w).0 t)
    to (Rattle.netlist_rules.specs.Clocks.IsClockFault.clock_read {line = l} {word = w} one r) =
        Rattle.netlist_rules.specs.FlatClocks.IsFlatClockFault.clock_read (λ m v t. one m v ((two_clocks_are_flat design flat faultless h m v).1 t)) ((clock_read_is_flat design flat faultless one h l w).0 r)

    back : {f : Fault} → IsFlatClockFault flat f → IsClockFault design f
    back (Rattle.netlist_rules.specs.FlatClocks.IsFlatClockFault.two_clocks {line = l} {word = w} t) = Rattle.netlist_rules.specs.Clocks.IsClockFault.two_clocks ((two_clocks_are_flat design flat faultless h l w).1 t)
    back (Rattle.netlist_rules.specs.FlatClocks.IsFlatClockFault.clock_read {line = l} {word = w} one r) =
        let none : HasOneClock design = λ m v t. one m v ((two_clocks_are_flat design flat faultless h m v).0 t) in
        Rattle.netlist_rules.specs.Clocks.IsClockFault.clock_read none ((clock_read_is_flat design flat faultless none h l w).1 r)
