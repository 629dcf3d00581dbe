-- The flat netlist of a design without a fault is sound.
use Rattle.std.proofs.Common.{ℕ, ◌≡◌, ◌≢◌, ◌<◌, ◌≤◌, ◌^◌, ◌⊎◌, inl, inr, List, [], ◌∷◌, ◌++◌, Option, Some, None, slice_get, get_or, map, length, option_map, refl, sym, ap, ◌∙◌, subst, arith}
use Rattle.std.specs.Prelude.{Contains, All, MatchOption, ⊤, option_to_list}
use Rattle.std.proofs.lemmas.List.{length-map}
use Rattle.std.proofs.lemmas.Option.{slice_get-map, slice_get-get_or, slice_get_within, slice_get_past, unwrap_or-slice_get}
use Rattle.std.proofs.lemmas.Bool.{cases_eq, cases_lt}
use Rattle.netlist_core.specs.declared.model.Design.{Design}
use Rattle.netlist_core.specs.declared.model.Model.{Model}
use Rattle.netlist_core.specs.declared.model.Port.{Port}
use Rattle.netlist_core.specs.declared.model.Cover.{Cover}
use Rattle.netlist_core.specs.declared.model.LatchRow.{LatchRow}
use Rattle.netlist_core.specs.Names.{Name, port_names}
use Rattle.netlist_meaning.specs.Places.{Place, main_model, model_at, main_ports}
use Rattle.netlist_meaning.specs.Nets.{Net, net_at, Joined}
use Rattle.netlist_rules.specs.Clocks.IsClockFault.{two_clocks}
use Rattle.netlist_rules.specs.FaultNames.{fault_on}
use Rattle.netlist_rules.specs.declared.fault.FaultKind.TheVariants.{TwoClocks}
use Rattle.netlist_rules.specs.Clocks.{HasNoClockFault, IsUse, by_cover, by_latch, by_main_output}
use Rattle.netlist_rules.specs.ModelFaults.{AreFaultless}
use Rattle.lists.proofs.Members.{In, in_left, in_right, in_map, in_mapped, in_from, contains_from, in_got, got_from}
use Rattle.flat_designs.proofs.Faultless.{in_models, wired, in_names_append}
use Rattle.flat_designs.proofs.Driven.{names_left}
use Rattle.flat_designs.proofs.OneDriver.{at_most_one_driver}
use Rattle.flat_designs.proofs.Sources.{have_drivers}
use Rattle.flat_designs.specs.OneDriver.{of_port, of_cover, of_latch}
use Rattle.netlist_core.specs.declared.flat.NetId.{NetId}
use Rattle.netlist_core.specs.declared.flat.FlatPort.{FlatPort}
use Rattle.netlist_core.specs.declared.flat.FlatLatch.{FlatLatch}
use Rattle.netlist_core.specs.declared.flat.Node.{Node}
use Rattle.netlist_core.specs.declared.flat.Flat.{Flat}
use Rattle.netlist_meaning.specs.Flat.{class_of, node_at, no_node, in_classes, FlatDriver, input, latch, node, FlatDrives, port_classes, IsClockClass, IsNetId, IsInRange}
use Rattle.netlist_meaning.specs.InOrder.{nets_in_order}
use Rattle.netlist_meaning.specs.FlatOf.{position_of, id_of, class_of_net, flat_net, flat_node, flat_latch, flat_port, first_control, IsFlatOf}
use Rattle.netlist_core.specs.declared.flat.Net.{Net as FlatNet}
use Rattle.flat_designs.specs.Laws.{FlatIsSound, FlatIsInRange}
use Rattle.flat_designs.proofs.Lists.{Pairs, all_of, in_some_map}
use Rattle.flat_designs.proofs.Listed.{net_is}
use Rattle.flat_designs.proofs.Names.{output_name, clock_name, cover_name, latch_name, is_net_of, main_port}
use Rattle.flat_designs.proofs.Classes.{net_there, flat_net_at, class_is, class_joined, joined_class, root_is_net}
use Rattle.flat_designs.proofs.Valuations.{port_kept, in_port_net, placed, NodeIs, node_is, is_node, latches_of}
use Rattle.flat_designs.proofs.Indices.{IsIndex, At, at_of, one_index, index_of}
use Rattle.flat_designs.proofs.Ports.{OtherName, inputs_apart, kept_apart, kept_or_control, one_port}
use Rattle.flat_designs.proofs.Weights.{nodes_within}
use Rattle.netlist_meaning.specs.Weight.{weight}
use Rattle.flat_designs.proofs.Clocks.{control_class, clock_class, has_port_class, in_port_no_clock}
use Rattle.lists.proofs.Appends.{slice_get_push as at_end}

abbrev DesignNet : Design → Net → Type 0
DesignNet design net = Rattle.netlist_meaning.specs.Nets.IsNet design net

abbrev DesignDriver : Type 0
DesignDriver = Rattle.flat_designs.specs.OneDriver.Driver

abbrev DesignDrives : Design → DesignDriver → Net → Type 0
DesignDrives design d net = Rattle.flat_designs.specs.OneDriver.Drives design d net

abbrev covers_of : Model → List Cover
covers_of m = m.covers

-- a driver of a class and the driver of the design that it is
abbrev SameDriver : (design : Design) (flat : Flat) → IsFlatOf design flat → FlatDriver → DesignDriver → Type 0
SameDriver design flat h (input i) e = (p : Port) × (slice_get h.in_ports i ≡ Some p) × (e ≡ Rattle.flat_designs.specs.OneDriver.Driver.port p.name)
SameDriver design flat h (latch i) e = (place : Place) × (number : ℕ) × IsIndex design latches_of (flat_latch design) place number i × (e ≡ Rattle.flat_designs.specs.OneDriver.Driver.latch place number)
SameDriver design flat h (node n) e = (place : Place) × (number : ℕ) × IsIndex design covers_of (flat_node design) place number n × (e ≡ Rattle.flat_designs.specs.OneDriver.Driver.cover place number)

record HasSameDriver (design : Design) (flat : Flat) (h : IsFlatOf design flat) (d : FlatDriver) (class : ℕ) : Type 0 where
  pub driver : DesignDriver
  pub net : Net
  pub is_net : DesignNet design net
  pub drives : DesignDrives design driver net
  pub is_class : class_of_net design net ≡ class
  pub is_driver : SameDriver design flat h d driver

in_port_main : (design : Design) (flat : Flat) (h : IsFlatOf design flat) (p : Port) → In p h.in_ports → (m : Model) × (main_model design ≡ Some m) × (model_at design [] ≡ Some m) × In p m.ins
in_port_main design flat h p i = main_port design (λ (m : Model). m.ins) p (port_kept design (main_ports (λ (m : Model). m.ins) design) h.in_ports p h.are_in_ports i)

driven : (design : Design) (flat : Flat) → AreFaultless design.models → (h : IsFlatOf design flat) (d : FlatDriver) (class : ℕ) → FlatDrives flat d class → HasSameDriver design flat h d class
driven design flat faultless h (input i) class (x, is_x, is_class) =
    let (p, is_p, same) = in_some_map (flat_port design) (slice_get h.in_ports i) x (sym (slice_get-map (flat_port design) h.in_ports i) ∙ ap (λ (xs : List FlatPort). slice_get xs i) (sym h.ins) ∙ is_x) in
    let j : In p h.in_ports = in_got h.in_ports i p is_p in
    let n : DesignNet design (net_at [] p.name) = in_port_net design flat h p j in
    let (m, is_main, is_m, k) = in_port_main design flat h p j in
    record {
      driver = Rattle.flat_designs.specs.OneDriver.Driver.port p.name;
      net = net_at [] p.name;
      is_net = n;
      drives = of_port is_main (contains_from (port_names (m.ins ++ m.clocks)) p.name (names_left m.ins m.clocks p.name (in_map (λ (q : Port). q.name) m.ins p k)));
      is_class = sym (class_is design flat faultless h (net_at [] p.name) n) ∙ ap (λ (port : FlatPort). class_of flat port.net) same ∙ is_class;
      is_driver = (p, is_p, refl);
    }
driven design flat faultless h (latch i) class (x, is_x, is_class) =
    let r : At design latches_of (flat_latch design) i x = at_of design latches_of (flat_latch design) i x (ap (λ (xs : List FlatLatch). slice_get xs i) (sym h.latches) ∙ is_x) in
    let n : DesignNet design (net_at r.place r.item.output) = is_net_of design r.place r.model r.item.output r.has_model (latch_name r.model r.item r.item.output (in_got r.model.latches r.number r.item r.has_item) (inr (inl refl))) in
    record {
      driver = Rattle.flat_designs.specs.OneDriver.Driver.latch r.place r.number;
      net = net_at r.place r.item.output;
      is_net = n;
      drives = of_latch r.has_model r.has_item;
      is_class = sym (class_is design flat faultless h (net_at r.place r.item.output) n) ∙ ap (λ (l : FlatLatch). class_of flat l.output) r.is_value ∙ is_class;
      is_driver = (r.place, r.number, r.index, refl);
    }
driven design flat faultless h (node k) class (less, is_class) =
    let r : At design covers_of (flat_node design) k (node_at flat k) = at_of design covers_of (flat_node design) k (node_at flat k) (ap (λ (xs : List Node). slice_get xs k) (sym h.nodes) ∙ slice_get-get_or flat.nodes k no_node less) in
    let n : DesignNet design (net_at r.place r.item.out) = is_net_of design r.place r.model r.item.out r.has_model (cover_name r.model r.item r.item.out (in_got r.model.covers r.number r.item r.has_item) (in_right r.item.ins (r.item.out ∷ []) r.item.out (inl refl))) in
    record {
      driver = Rattle.flat_designs.specs.OneDriver.Driver.cover r.place r.number;
      net = net_at r.place r.item.out;
      is_net = n;
      drives = of_cover r.has_model r.has_item;
      is_class = sym (class_is design flat faultless h (net_at r.place r.item.out) n) ∙ ap (λ (v : Node). class_of flat v.out) r.is_value ∙ is_class;
      is_driver = (r.place, r.number, r.index, refl);
    }

in_ports_apart : (design : Design) (flat : Flat) → AreFaultless design.models → (h : IsFlatOf design flat) → Pairs OtherName h.in_ports
in_ports_apart design flat faultless h = kept_apart design (main_ports (λ (m : Model). m.ins) design) h.in_ports h.are_in_ports (by (main_model design) refl)
  where
    by : (o : Option Model) → main_model design ≡ o → Pairs OtherName (Rattle.std.specs.Prelude.unwrap_or (option_map (λ (m : Model). m.ins) o) [])
    by None e = tt
    by (Some m) e = inputs_apart design.models faultless m (in_models design [] m (ap (Rattle.std.proofs.Common.option_and_then (Rattle.netlist_meaning.specs.Places.model_below design [])) e))

same_driver : (design : Design) (flat : Flat) → AreFaultless design.models → (h : IsFlatOf design flat) (d e : FlatDriver) (x : DesignDriver) → SameDriver design flat h d x → SameDriver design flat h e x → d ≡ e
same_driver design flat faultless h (input i) (input j) x (p, is_p, a) (q, is_q, b) =
    let s : Rattle.flat_designs.specs.OneDriver.Driver.port p.name ≡ Rattle.flat_designs.specs.OneDriver.Driver.port q.name = sym a ∙ b in
    ap input (one_port h.in_ports i j p q (in_ports_apart design flat faultless h) is_p is_q (let e : p.name ≡ q.name = cc in e))
same_driver design flat faultless h (input i) (latch j) x (p, is_p, a) (place, number, index, b) = absurd (cc)
same_driver design flat faultless h (input i) (node j) x (p, is_p, a) (place, number, index, b) = absurd (cc)
same_driver design flat faultless h (latch i) (input j) x (place, number, index, b) (p, is_p, a) = absurd (cc)
same_driver design flat faultless h (latch i) (latch j) x (p, k, index, a) (q, l, other, b) =
    let s : Rattle.flat_designs.specs.OneDriver.Driver.latch p k ≡ Rattle.flat_designs.specs.OneDriver.Driver.latch q l = sym a ∙ b in
    ap latch (one_index design latches_of (flat_latch design) p q k l i j index other (let e : p ≡ q = cc in e) (let e : k ≡ l = cc in e))
same_driver design flat faultless h (latch i) (node j) x (p, k, index, a) (q, l, other, b) = absurd (cc)
same_driver design flat faultless h (node i) (input j) x (place, number, index, b) (p, is_p, a) = absurd (cc)
same_driver design flat faultless h (node i) (latch j) x (p, k, index, a) (q, l, other, b) = absurd (cc)
same_driver design flat faultless h (node i) (node j) x (p, k, index, a) (q, l, other, b) =
    let s : Rattle.flat_designs.specs.OneDriver.Driver.cover p k ≡ Rattle.flat_designs.specs.OneDriver.Driver.cover q l = sym a ∙ b in
    ap node (one_index design covers_of (flat_node design) p q k l i j index other (let e : p ≡ q = cc in e) (let e : k ≡ l = cc in e))

one_driver : (design : Design) (flat : Flat) → AreFaultless design.models → IsFlatOf design flat → (class : ℕ) (d e : FlatDriver) → FlatDrives flat d class → FlatDrives flat e class → d ≡ e
one_driver design flat faultless h class d e x y =
    let a : HasSameDriver design flat h d class = driven design flat faultless h d class x in
    let b : HasSameDriver design flat h e class = driven design flat faultless h e class y in
    let joined : Joined design a.net b.net = class_joined design faultless a.net b.net a.is_net b.is_net (a.is_class ∙ sym b.is_class) in
    same_driver design flat faultless h d e b.driver (subst (SameDriver design flat h d) (at_most_one_driver design faultless a.net b.net a.driver b.driver joined a.drives b.drives) a.is_driver) b.is_driver

-- numbers in range
many : (design : Design) (flat : Flat) → IsFlatOf design flat → length flat.nets ≡ length (nets_in_order design)
many design flat h = ap (λ (xs : List FlatNet). length xs) h.nets ∙ length-map (nets_in_order design) (flat_net design)

within : (design : Design) (flat : Flat) → AreFaultless design.models → IsFlatOf design flat → (net : Net) → DesignNet design net → position_of (nets_in_order design) net < length flat.nets
within design flat faultless h net n =
    let l : position_of (nets_in_order design) net < length (nets_in_order design) = slice_get_within (nets_in_order design) (position_of (nets_in_order design) net) net (net_there design faultless net n) in
    let e : length flat.nets ≡ length (nets_in_order design) = many design flat h in
    omega arith

ports_within : (design : Design) (flat : Flat) → AreFaultless design.models → IsFlatOf design flat → (ports : List Port) (flat_ports : List FlatPort) → flat_ports ≡ map (flat_port design) ports → ((p : Port) → In p ports → DesignNet design (net_at [] p.name)) → All (λ (port : FlatPort). IsNetId flat port.net) flat_ports
ports_within design flat faultless h ports flat_ports e nets = all_of (λ (port : FlatPort). IsNetId flat port.net) flat_ports (λ x i.
    let (p, j, same) = in_mapped (flat_port design) ports x (subst (λ ps. In x ps) e i) in
    subst (λ (v : FlatPort). IsNetId flat v.net) (sym same) (within design flat faultless h (net_at [] p.name) (nets p j)))

pub main_net : (design : Design) (ports_of : Model → List Port) → ((m : Model) (p : Port) → In p (ports_of m) → In p.name (Rattle.netlist_meaning.specs.Nets.model_names m)) → (p : Port) → In p (main_ports ports_of design) → DesignNet design (net_at [] p.name)
main_net design ports_of named p i = let (m, _, is_m, j) = main_port design ports_of p i in is_net_of design [] m p.name is_m (named m p j)

pub record LatchIs (design : Design) (x : FlatLatch) : Type 0 where
  pub place : Place
  pub model : Model
  pub latch : LatchRow
  pub has_model : model_at design place ≡ Some model
  pub has_latch : In latch model.latches
  pub is_value : x ≡ flat_latch design place latch

pub latch_of : (design : Design) (flat : Flat) → IsFlatOf design flat → (x : FlatLatch) → In x flat.latches → LatchIs design x
latch_of design flat h x i =
    let (place, m, l, is_m, j, e) = placed design latches_of (flat_latch design) x (subst (λ ls. In x ls) h.latches i) in
    record { place = place; model = m; latch = l; has_model = is_m; has_latch = j; is_value = e }

pub data_net : (design : Design) (place : Place) (m : Model) (l : LatchRow) → model_at design place ≡ Some m → In l m.latches → DesignNet design (net_at place l.input)
data_net design place m l is_m i = is_net_of design place m l.input is_m (latch_name m l l.input i (inl refl))

pub state_net : (design : Design) (place : Place) (m : Model) (l : LatchRow) → model_at design place ≡ Some m → In l m.latches → DesignNet design (net_at place l.output)
state_net design place m l is_m i = is_net_of design place m l.output is_m (latch_name m l l.output i (inr (inl refl)))

pub read_net : (design : Design) (place : Place) (m : Model) (c : Cover) (name : Name) → model_at design place ≡ Some m → In c m.covers → In name c.ins → DesignNet design (net_at place name)
read_net design place m c name is_m i j = is_net_of design place m name is_m (cover_name m c name i (in_left c.ins (c.out ∷ []) name j))

pub out_net : (design : Design) (place : Place) (m : Model) (c : Cover) → model_at design place ≡ Some m → In c m.covers → DesignNet design (net_at place c.out)
out_net design place m c is_m i = is_net_of design place m c.out is_m (cover_name m c c.out i (in_right c.ins (c.out ∷ []) c.out (inl refl)))

pub record CoverIs (design : Design) (x : Node) : Type 0 where
  pub place : Place
  pub model : Model
  pub cover : Cover
  pub has_model : model_at design place ≡ Some model
  pub has_cover : In cover model.covers
  pub is_value : x ≡ flat_node design place cover

pub cover_of : (design : Design) (flat : Flat) → IsFlatOf design flat → (x : Node) → In x flat.nodes → CoverIs design x
cover_of design flat h x i =
    let (place, m, c, is_m, j, e) = placed design covers_of (flat_node design) x (subst (λ ns. In x ns) h.nodes i) in
    record { place = place; model = m; cover = c; has_model = is_m; has_cover = j; is_value = e }

-- the control of a latch, and that of the first
control_within : (design : Design) (flat : Flat) → AreFaultless design.models → IsFlatOf design flat → (place : Place) (model : Model) (row : LatchRow) → model_at design place ≡ Some model → In row model.latches
    → (control : Option Name) → row.control ≡ control → MatchOption (option_map (id_of design place) control) ⊤ (IsNetId flat)
control_within design flat faultless h place model row is_m i None e = tt
control_within design flat faultless h place model row is_m i (Some name) e =
    within design flat faultless h (net_at place name)
    (is_net_of design place model name is_m (latch_name model row name i (subst (λ c. In name (row.input ∷ row.output ∷ option_to_list c)) (sym e) (inr (inr (inl refl))))))

first_within : (flat : Flat) (xs : List FlatLatch) → ((x : FlatLatch) → In x xs → MatchOption x.control ⊤ (IsNetId flat)) → MatchOption (first_control xs) ⊤ (IsNetId flat)
first_within flat [] f = tt
first_within flat (x ∷ xs) f = f x (inl refl)

in_range : (design : Design) (flat : Flat) → AreFaultless design.models → IsFlatOf design flat → length flat.nodes < 2 ^ 32 → IsInRange flat
in_range design flat faultless h few = record {
  few = few;
  classes = all_of (λ (x : FlatNet). x.class < length flat.nets) flat.nets class_within;
  ins = ports_within design flat faultless h h.in_ports flat.ins h.ins (in_port_net design flat h);
  outs = ports_within design flat faultless h (main_ports (λ (m : Model). m.outs) design) flat.outs h.outs (main_net design (λ (m : Model). m.outs) output_name);
  clocks = ports_within design flat faultless h (main_ports (λ (m : Model). m.clocks) design) flat.clocks h.clocks (main_net design (λ (m : Model). m.clocks) clock_name);
  latches = all_of (λ (x : FlatLatch). IsNetId flat x.input × IsNetId flat x.output) flat.latches latch_within;
  controls = all_of (λ (x : FlatLatch). MatchOption x.control ⊤ (IsNetId flat)) flat.latches controls_within;
  control = subst (λ c. MatchOption c ⊤ (IsNetId flat)) (sym h.control) (first_within flat flat.latches controls_within);
  node_ins = all_of (λ (x : Node). All (IsNetId flat) x.ins) flat.nodes ins_within;
  node_outs = all_of (λ (x : Node). IsNetId flat x.out) flat.nodes out_within;
}
  where
    class_within : (x : FlatNet) → In x flat.nets → x.class < length flat.nets
    class_within x i =
        let (net, j, e) = in_mapped (flat_net design) (nets_in_order design) x (subst (λ ns. In x ns) h.nets i) in
        subst (λ (v : FlatNet). v.class < length flat.nets) (sym e) (within design flat faultless h (Rattle.netlist_meaning.specs.Roots.root design net) (root_is_net design faultless net (net_is design net j)))

    latch_within : (x : FlatLatch) → In x flat.latches → IsNetId flat x.input × IsNetId flat x.output
    latch_within x i =
        let r : LatchIs design x = latch_of design flat h x i in
        subst (λ (v : FlatLatch). IsNetId flat v.input × IsNetId flat v.output) (sym r.is_value)
        (within design flat faultless h (net_at r.place r.latch.input) (data_net design r.place r.model r.latch r.has_model r.has_latch), within design flat faultless h (net_at r.place r.latch.output) (state_net design r.place r.model r.latch r.has_model r.has_latch))

    controls_within : (x : FlatLatch) → In x flat.latches → MatchOption x.control ⊤ (IsNetId flat)
    controls_within x i =
        let r : LatchIs design x = latch_of design flat h x i in
        subst (λ (v : FlatLatch). MatchOption v.control ⊤ (IsNetId flat)) (sym r.is_value) (control_within design flat faultless h r.place r.model r.latch r.has_model r.has_latch r.latch.control refl)

    ins_within : (x : Node) → In x flat.nodes → All (IsNetId flat) x.ins
    ins_within x i =
        let r : CoverIs design x = cover_of design flat h x i in
        subst (λ (v : Node). All (IsNetId flat) v.ins) (sym r.is_value) (all_of (IsNetId flat) (map (id_of design r.place) r.cover.ins) (λ id j.
        let (name, k, e) = in_mapped (id_of design r.place) r.cover.ins id j in
        subst (IsNetId flat) (sym e) (within design flat faultless h (net_at r.place name) (read_net design r.place r.model r.cover name r.has_model r.has_cover k))))

    out_within : (x : Node) → In x flat.nodes → IsNetId flat x.out
    out_within x i =
        let r : CoverIs design x = cover_of design flat h x i in
        subst (λ (v : Node). IsNetId flat v.out) (sym r.is_value) (within design flat faultless h (net_at r.place r.cover.out) (out_net design r.place r.model r.cover r.has_model r.has_cover))

-- a class has a driver
pub has_driver : (design : Design) (flat : Flat) → AreFaultless design.models → HasNoClockFault design → IsFlatOf design flat → (net : Net) → DesignNet design net → ¬ IsClockClass flat (class_of_net design net) → (d : FlatDriver) × FlatDrives flat d (class_of_net design net)
has_driver design flat faultless clean h net n away =
    let (d, source, drives, joined) = have_drivers design faultless net n in
    by d source drives (joined_class design faultless source net joined)
  where
    by_input : (p : Port) → In p h.in_ports → class_of_net design (net_at [] p.name) ≡ class_of_net design net → (d : FlatDriver) × FlatDrives flat d (class_of_net design net)
    by_input p i e =
        let j : In (flat_port design p) flat.ins = subst (λ ps. In (flat_port design p) ps) (sym h.ins) (in_map (flat_port design) h.in_ports p i) in
        let (k, is) = got_from flat.ins (flat_port design p) j in
        (input k, (flat_port design p, is, class_is design flat faultless h (net_at [] p.name) (in_port_net design flat h p i) ∙ e))

    in_or_not : (class : ℕ) (classes : List ℕ) → In class classes ⊎ ¬ In class classes
    in_or_not class [] = inr (λ x. x)
    in_or_not class (c ∷ cs) = decide (cases_eq class c) (in_or_not class cs)
      where
        decide : (class ≡ c) ⊎ (class ≢ c) → In class cs ⊎ ¬ In class cs → In class (c ∷ cs) ⊎ ¬ In class (c ∷ cs)
        decide (inl e) r = inl (inl e)
        decide (inr a) (inl i) = inl (inr i)
        decide (inr a) (inr b) = inr (λ x. elim x as (λ _. ⊥) [ inl e ↦ a e | inr i ↦ b i ])

    by_clock : (p : Port) → In p (main_ports (λ (m : Model). m.clocks) design) → class_of_net design (net_at [] p.name) ≡ class_of_net design net → In (class_of_net design net) (port_classes flat flat.ins) ⊎ ¬ In (class_of_net design net) (port_classes flat flat.ins) → (d : FlatDriver) × FlatDrives flat d (class_of_net design net)
    by_clock p i e (inl j) =
        let (x, k, same) = in_mapped (λ (port : FlatPort). class_of flat port.net) flat.ins (class_of_net design net) j in
        let (number, is) = got_from flat.ins x k in
        (input number, (x, is, sym same))
    by_clock p i e (inr none) =
        absurd (away (inr (
          (subst (λ class. Contains (port_classes flat flat.clocks) class) (class_is design flat faultless h (net_at [] p.name) (main_net design (λ (m : Model). m.clocks) clock_name p i) ∙ e) (has_port_class design flat (main_ports (λ (m : Model). m.clocks) design) flat.clocks p h.clocks i)),
          (λ c. none (in_from (port_classes flat flat.ins) (class_of_net design net) c)),
        )))

    main_in : (ports_of : Model → List Port) (m : Model) (p : Port) → main_model design ≡ Some m → In p (ports_of m) → In p (main_ports ports_of design)
    main_in ports_of m p e i = subst (λ o. In p (Rattle.std.specs.Prelude.unwrap_or (option_map ports_of o) [])) (sym e) i

    by_port : (m : Model) (name : Name) → main_model design ≡ Some m → In name (port_names m.ins) ⊎ In name (port_names m.clocks) → class_of_net design (net_at [] name) ≡ class_of_net design net → (d : FlatDriver) × FlatDrives flat d (class_of_net design net)
    by_port m name is_m (inl i) e =
        let (p, j, same) = in_mapped (λ (q : Port). q.name) m.ins name i in
        let g : class_of_net design (net_at [] p.name) ≡ class_of_net design net = ap (λ v. class_of_net design (net_at [] v)) (sym same) ∙ e in
        elim (kept_or_control design (main_ports (λ (m : Model). m.ins) design) h.in_ports p h.are_in_ports (main_in (λ (m : Model). m.ins) m p is_m j)) as (λ _. (d : FlatDriver) × FlatDrives flat d (class_of_net design net)) [
          | inl k ↦ by_input p k g
          | inr c ↦ absurd (away (inl (subst (λ class. Rattle.std.specs.Prelude.MatchOption flat.control ⊥ (λ net. class_of flat net ≡ class)) g (control_class design flat faultless (λ line word t. clean (fault_on TwoClocks line word) (two_clocks t)) h (net_at [] p.name) c))))
        ]
    by_port m name is_m (inr i) e =
        let (p, j, same) = in_mapped (λ (q : Port). q.name) m.clocks name i in
        by_clock p (main_in (λ (m : Model). m.clocks) m p is_m j) (ap (λ v. class_of_net design (net_at [] v)) (sym same) ∙ e) (in_or_not (class_of_net design net) (port_classes flat flat.ins))

    by : (d : DesignDriver) (source : Net) → DesignDrives design d source → class_of_net design source ≡ class_of_net design net → (d : FlatDriver) × FlatDrives flat d (class_of_net design net)
    by (Rattle.flat_designs.specs.OneDriver.Driver.port name) source (of_port {main = m} is_m c) e = by_port m name is_m (in_names_append m.ins m.clocks name (in_from (port_names (m.ins ++ m.clocks)) name c)) e
    by (Rattle.flat_designs.specs.OneDriver.Driver.cover place number) source (of_cover {model = m} {c = c} is_m is_c) e =
        let i : In c m.covers = in_got m.covers number c is_c in
        let (k, less, is) = is_node design flat faultless h place m c is_m i in
        (node k, (less, ap (λ (v : Node). class_of flat v.out) is ∙ class_is design flat faultless h (net_at place c.out) (out_net design place m c is_m i) ∙ e))
    by (Rattle.flat_designs.specs.OneDriver.Driver.latch place number) source (of_latch {model = m} {l = l} is_m is_l) e =
        let (k, _, is) = index_of design faultless latches_of (flat_latch design) place m number l is_m is_l in
        (latch k, (flat_latch design place l, ap (λ (xs : List FlatLatch). slice_get xs k) h.latches ∙ is, class_is design flat faultless h (net_at place l.output) (state_net design place m l is_m (in_got m.latches number l is_l)) ∙ e))

net_driver : (design : Design) (flat : Flat) → AreFaultless design.models → HasNoClockFault design → IsFlatOf design flat → (id : NetId) → IsNetId flat id → ¬ IsClockClass flat (class_of flat id) → (d : FlatDriver) × FlatDrives flat d (class_of flat id)
net_driver design flat faultless clean h id less away =
    let e : length flat.nets ≡ length (nets_in_order design) = many design flat h in
    let is_net : slice_get (nets_in_order design) id.0 ≡ Some (get_or (nets_in_order design) id.0 (net_at [] [])) = slice_get-get_or (nets_in_order design) id.0 (net_at [] []) (omega arith) in
    let n : DesignNet design (get_or (nets_in_order design) id.0 (net_at [] [])) = net_is design _ (in_got (nets_in_order design) id.0 _ is_net) in
    let same : class_of flat id ≡ class_of_net design (get_or (nets_in_order design) id.0 (net_at [] [])) = ap (λ (x : FlatNet). x.class) (flat_net_at design flat h id.0 _ is_net) in
    subst (λ class. (d : FlatDriver) × FlatDrives flat d class) (sym same) (has_driver design flat faultless clean h _ n (subst (λ class. ¬ IsClockClass flat class) same away))

-- what is used is of no clock class
unused : (design : Design) (flat : Flat) → AreFaultless design.models → HasNoClockFault design → IsFlatOf design flat → (line position : ℕ) (net : Net) → DesignNet design net → IsUse design line position net → ¬ IsClockClass flat (class_of_net design net)
unused design flat faultless clean h line position net n use_ c = (wired design faultless clean).clocks_unread line position net (use_, clock_class design flat faultless h net n c)

unused_id : (design : Design) (flat : Flat) → AreFaultless design.models → HasNoClockFault design → IsFlatOf design flat → (line position : ℕ) (net : Net) → DesignNet design net → IsUse design line position net → ¬ IsClockClass flat (class_of flat (id_of design net.place net.name))
unused_id design flat faultless clean h line position net n use_ c = unused design flat faultless clean h line position net n use_ (subst (IsClockClass flat) (class_is design flat faultless h net n) c)

undriven : (design : Design) (flat : Flat) → AreFaultless design.models → HasNoClockFault design → IsFlatOf design flat → (class : ℕ) (d : FlatDriver) → FlatDrives flat d class → ¬ IsClockClass flat class
undriven design flat faultless clean h class (input i) (x, is_x, is_class) c =
    let (p, is_p, same) = in_some_map (flat_port design) (slice_get h.in_ports i) x (sym (slice_get-map (flat_port design) h.in_ports i) ∙ ap (λ (xs : List FlatPort). slice_get xs i) (sym h.ins) ∙ is_x) in
    let j : In p h.in_ports = in_got h.in_ports i p is_p in
    let n : DesignNet design (net_at [] p.name) = in_port_net design flat h p j in
    let e : class ≡ class_of_net design (net_at [] p.name) = sym (ap (λ (port : FlatPort). class_of flat port.net) same ∙ is_class) ∙ class_is design flat faultless h (net_at [] p.name) n in
    in_port_no_clock design flat faultless h p j (clock_class design flat faultless h (net_at [] p.name) n (subst (IsClockClass flat) e c))
undriven design flat faultless clean h class (latch i) (x, is_x, is_class) c =
    let r : LatchIs design x = latch_of design flat h x (in_got flat.latches i x is_x) in
    unused_id design flat faultless clean h r.latch.line 1 (net_at r.place r.latch.output) (state_net design r.place r.model r.latch r.has_model r.has_latch) (by_latch r.has_model (contains_from r.model.latches r.latch r.has_latch) refl)
    (subst (IsClockClass flat) (sym is_class ∙ ap (λ (l : FlatLatch). class_of flat l.output) r.is_value) c)
undriven design flat faultless clean h class (node k) (less, is_class) c =
    let r : NodeIs design flat k = node_is design flat h k less in
    unused_id design flat faultless clean h r.cover.line (length r.cover.ins) (net_at r.place r.cover.out) (out_net design r.place r.model r.cover r.has_model r.has_cover) (by_cover r.has_model (contains_from r.model.covers r.cover r.has_cover) (at_end r.cover.ins r.cover.out))
    (subst (IsClockClass flat) (sym is_class ∙ ap (λ (v : Node). class_of flat v.out) r.is_node) c)

unread : (design : Design) (flat : Flat) → AreFaultless design.models → HasNoClockFault design → IsFlatOf design flat → (n class : ℕ) → Contains (in_classes flat n) class → ¬ IsClockClass flat class
unread design flat faultless clean h n class reads c = by (cases_lt n (length flat.nodes))
  where
    by : (n < length flat.nodes) ⊎ (length flat.nodes ≤ n) → ⊥
    by (inl less) =
        let r : NodeIs design flat n = node_is design flat h n less in
        let i : In class (map (class_of flat) (map (id_of design r.place) r.cover.ins)) = subst (λ (v : Node). In class (map (class_of flat) v.ins)) r.is_node (in_from (in_classes flat n) class reads) in
        let (id, j, e) = in_mapped (class_of flat) (map (id_of design r.place) r.cover.ins) class i in
        let (name, k, g) = in_mapped (id_of design r.place) r.cover.ins id j in
        let l : In name (r.cover.ins ++ r.cover.out ∷ []) = in_left r.cover.ins (r.cover.out ∷ []) name k in
        let (at, is) = got_from (r.cover.ins ++ r.cover.out ∷ []) name l in
        unused_id design flat faultless clean h r.cover.line at (net_at r.place name) (read_net design r.place r.model r.cover name r.has_model r.has_cover k) (by_cover r.has_model (contains_from r.model.covers r.cover r.has_cover) is)
        (subst (IsClockClass flat) (e ∙ ap (class_of flat) g) c)
    by (inr past) = in_from [] class (subst (λ (v : Node). Contains (map (class_of flat) v.ins) class) (sym (unwrap_or-slice_get flat.nodes n no_node) ∙ ap (λ o. Rattle.std.specs.Prelude.unwrap_or o no_node) (slice_get_past flat.nodes n past)) reads)

outs_unclocked : (design : Design) (flat : Flat) → AreFaultless design.models → HasNoClockFault design → IsFlatOf design flat → All (λ (port : FlatPort). ¬ IsClockClass flat (class_of flat port.net)) flat.outs
outs_unclocked design flat faultless clean h = all_of (λ (port : FlatPort). ¬ IsClockClass flat (class_of flat port.net)) flat.outs (λ x i.
    let (p, j, same) = in_mapped (flat_port design) (main_ports (λ (m : Model). m.outs) design) x (subst (λ ps. In x ps) h.outs i) in
    let (at, is) = got_from (main_ports (λ (m : Model). m.outs) design) p j in
    subst (λ (v : FlatPort). ¬ IsClockClass flat (class_of flat v.net)) (sym same) (unused_id design flat faultless clean h p.line at (net_at [] p.name) (main_net design (λ (m : Model). m.outs) output_name p j) (by_main_output is)))

data_unclocked : (design : Design) (flat : Flat) → AreFaultless design.models → HasNoClockFault design → IsFlatOf design flat → All (λ (l : FlatLatch). ¬ IsClockClass flat (class_of flat l.input)) flat.latches
data_unclocked design flat faultless clean h = all_of (λ (l : FlatLatch). ¬ IsClockClass flat (class_of flat l.input)) flat.latches (λ x i.
    let r : LatchIs design x = latch_of design flat h x i in
    subst (λ (v : FlatLatch). ¬ IsClockClass flat (class_of flat v.input)) (sym r.is_value)
    (unused_id design flat faultless clean h r.latch.line 0 (net_at r.place r.latch.input) (data_net design r.place r.model r.latch r.has_model r.has_latch) (by_latch r.has_model (contains_from r.model.latches r.latch r.has_latch) refl)))

pub flat_is_in_range : FlatIsInRange
flat_is_in_range design flat faultless h light = in_range design flat faultless h (let l : length flat.nodes ≤ weight design = nodes_within design flat h in omega arith)

pub flat_is_sound : FlatIsSound
flat_is_sound design flat faultless clean h light = record {
  in_range = flat_is_in_range design flat faultless h light;
  one_driver = one_driver design flat faultless h;
  driven = net_driver design flat faultless clean h;
  clocks_undriven = undriven design flat faultless clean h;
  clocks_unread = unread design flat faultless clean h;
  clocks_no_outs = outs_unclocked design flat faultless clean h;
  clocks_no_data = data_unclocked design flat faultless clean h;
}
