-- Valuations of a design are those of its flat netlist.
use Rattle.std.proofs.Common.{ℕ, zero, suc, ◌≡◌, ◌<◌, ◌+◌, inl, inr, List, [], ◌∷◌, ◌++◌, Bool, false, Option, Some, None, slice_get, map, flat_map, length, option_and_then, option_map, unwrap_or, refl, sym, ap, ap₂, ◌∙◌, subst, arith}
use Rattle.std.specs.Prelude.{Contains, ◌==◌}
use Rattle.std.proofs.lemmas.List.{length-map, length-append}
use Rattle.std.proofs.lemmas.Simd.{map-map}
use Rattle.std.proofs.lemmas.Option.{none-some, slice_get-map, slice_get-get_or, slice_get_within, get_or_from_slice_get, same_Some}
use Rattle.netlist_core.specs.declared.model.Design.{Design}
use Rattle.netlist_core.specs.declared.model.Model.{Model}
use Rattle.netlist_core.specs.declared.model.Port.{Port}
use Rattle.netlist_core.specs.declared.model.Cover.{Cover}
use Rattle.netlist_core.specs.declared.model.LatchRow.{LatchRow}
use Rattle.netlist_core.specs.Names.{Name, port_names}
use Rattle.netlist_meaning.specs.Places.{Place, model_at, latch_at, main_ports}
use Rattle.netlist_meaning.specs.Nets.{Net, net_at, IsNet, Joined, IsClockNet, WithoutControl}
use Rattle.netlist_meaning.specs.Roots.{root}
use Rattle.netlist_meaning.specs.CoverValue.{cover_value}
use Rattle.netlist_rules.specs.Clocks.{HasNoClockFault, IsUse, by_cover, by_latch}
use Rattle.netlist_meaning.specs.Valuation.{Valuation, LatchState, IsValuation, latches_after, data_bit, start_state, start_bit}
use Rattle.netlist_meaning.proofs.Joined.{in_names_are_one}
use Rattle.netlist_meaning.proofs.Names.{and_then-from}
use Rattle.netlist_meaning.proofs.InNames.{root_of_top}
use Rattle.netlist_rules.specs.ModelFaults.{AreFaultless}
use Rattle.lists.proofs.Members.{In, in_left, in_right, in_map, in_mapped, in_flat, in_flattened, in_from, contains_from, in_got, got_from, map_in}
use Rattle.flat_designs.proofs.Faultless.{wired, not_recursive}
use Rattle.netlist_core.specs.declared.flat.NetId.{NetId}
use Rattle.netlist_core.specs.declared.flat.FlatPort.{FlatPort}
use Rattle.netlist_core.specs.declared.flat.FlatLatch.{FlatLatch}
use Rattle.netlist_core.specs.declared.flat.Node.{Node}
use Rattle.netlist_core.specs.declared.flat.Flat.{Flat}
use Rattle.netlist_meaning.specs.Flat.{class_of, node_at, no_node, out_class}
use Rattle.netlist_meaning.specs.FlatValuation.{IsFlatValuation, node_value}
use Rattle.netlist_meaning.specs.InOrder.{of_some, places_in_order}
use Rattle.netlist_meaning.specs.FlatOf.{id_of, flat_node, flat_latch, flat_port, at_places, PortsWithoutControl, IsFlatOf}
use Rattle.flat_designs.specs.Laws.{latch_bits_from, state_in_order, bit_of_net, class_bits, net_bits, ValuationsAreFlat}
use Rattle.flat_designs.proofs.Lists.{map_flat, flat_same}
use Rattle.flat_designs.proofs.Listed.{place_is, place_listed}
use Rattle.flat_designs.proofs.Names.{input_name, cover_name, latch_name, is_net_of, main_port}
use Rattle.flat_designs.proofs.Classes.{net_there, class_is, joined_class, root_joined, root_is_net}
use Rattle.lists.proofs.Appends.{slice_get_push as at_end}
use Rattle.flat_designs.proofs.Exists.{joined_nets}

-- IN ports have the IN names
pub ports_names : (design : Design) (ports rest : List Port) → PortsWithoutControl design ports rest → WithoutControl design (port_names ports) (port_names rest)
ports_names design [] rest Rattle.netlist_meaning.specs.FlatOf.PortsWithoutControl.none = Rattle.netlist_meaning.specs.Nets.WithoutControl.none
ports_names design (p ∷ ports) rest (Rattle.netlist_meaning.specs.FlatOf.PortsWithoutControl.kept {rest = others} away h) = Rattle.netlist_meaning.specs.Nets.WithoutControl.kept away (ports_names design ports others h)
ports_names design (p ∷ ports) rest (Rattle.netlist_meaning.specs.FlatOf.PortsWithoutControl.left_out c h) = Rattle.netlist_meaning.specs.Nets.WithoutControl.left_out c (ports_names design ports rest h)

pub port_kept : (design : Design) (ports rest : List Port) (p : Port) → PortsWithoutControl design ports rest → In p rest → In p ports
port_kept design [] rest p Rattle.netlist_meaning.specs.FlatOf.PortsWithoutControl.none i = i
port_kept design (q ∷ ports) rest p (Rattle.netlist_meaning.specs.FlatOf.PortsWithoutControl.kept {rest = others} away h) (inl e) = inl e
port_kept design (q ∷ ports) rest p (Rattle.netlist_meaning.specs.FlatOf.PortsWithoutControl.kept {rest = others} away h) (inr i) = inr (port_kept design ports others p h i)
port_kept design (q ∷ ports) rest p (Rattle.netlist_meaning.specs.FlatOf.PortsWithoutControl.left_out c h) i = inr (port_kept design ports rest p h i)

pub in_port_net : (design : Design) (flat : Flat) (h : IsFlatOf design flat) (p : Port) → In p h.in_ports → IsNet design (net_at [] p.name)
in_port_net design flat h p i =
    let (m, _, is_m, j) = main_port design (λ (m : Model). m.ins) p (port_kept design (main_ports (λ (m : Model). m.ins) design) h.in_ports p h.are_in_ports i) in
    is_net_of design [] m p.name is_m (input_name m p j)

-- what stands at places
pub placed : {X Y : Type 0} (design : Design) (items : Model → List X) (f : Place → X → Y) (y : Y) → In y (at_places design items f)
    → (place : Place) × (m : Model) × (x : X) × (model_at design place ≡ Some m) × In x (items m) × (y ≡ f place x)
placed design items f y i =
    let (place, j, k) = in_flattened (λ place. map (f place) (of_some items (model_at design place))) (places_in_order design) y i in
    let (m, is_m) = place_is design place j in
    let (x, l, e) = in_mapped (f place) (items m) y (subst (λ o. In y (map (f place) (of_some items o))) is_m k) in
    (place, m, x, is_m, l, e)

pub is_placed : {X Y : Type 0} (design : Design) → AreFaultless design.models → (items : Model → List X) (f : Place → X → Y) (place : Place) (m : Model) (x : X) → model_at design place ≡ Some m → In x (items m) → In (f place x) (at_places design items f)
is_placed design faultless items f place m x is_m i =
    in_flat (λ place. map (f place) (of_some items (model_at design place))) (places_in_order design) place (f place x) (place_listed design (not_recursive design faultless) place m is_m)
    (subst (λ o. In (f place x) (map (f place) (of_some items o))) (sym is_m) (in_map (f place) (items m) x i))

pub record NodeIs (design : Design) (flat : Flat) (n : ℕ) : Type 0 where
  pub place : Place
  pub model : Model
  pub cover : Cover
  pub has_model : model_at design place ≡ Some model
  pub has_cover : In cover model.covers
  pub is_node : node_at flat n ≡ flat_node design place cover

pub node_is : (design : Design) (flat : Flat) → IsFlatOf design flat → (n : ℕ) → n < length flat.nodes → NodeIs design flat n
node_is design flat h n l =
    let i : In (node_at flat n) (at_places design (λ (m : Model). m.covers) (flat_node design)) = subst (λ ns. In (node_at flat n) ns) h.nodes (in_got flat.nodes n (node_at flat n) (slice_get-get_or flat.nodes n no_node l)) in
    let (place, m, c, is_m, j, e) = placed design (λ (m : Model). m.covers) (flat_node design) (node_at flat n) i in
    record { place = place; model = m; cover = c; has_model = is_m; has_cover = j; is_node = e }

pub is_node : (design : Design) (flat : Flat) → AreFaultless design.models → IsFlatOf design flat → (place : Place) (m : Model) (c : Cover) → model_at design place ≡ Some m → In c m.covers → (n : ℕ) × (n < length flat.nodes) × (node_at flat n ≡ flat_node design place c)
is_node design flat faultless h place m c is_m i =
    let j : In (flat_node design place c) flat.nodes = subst (λ ns. In (flat_node design place c) ns) (sym h.nodes) (is_placed design faultless (λ (m : Model). m.covers) (flat_node design) place m c is_m i) in
    let (n, e) = got_from flat.nodes (flat_node design place c) j in
    (n, slice_get_within flat.nodes n (flat_node design place c) e, get_or_from_slice_get flat.nodes n (flat_node design place c) no_node e)

-- bits of latches in order
bits_are : (g : LatchRow → Bool) (state : ℕ → Bool) (first : ℕ) (latches : List LatchRow) → ((k number : ℕ) (l : LatchRow) → number ≡ first + k → slice_get latches k ≡ Some l → g l ≡ state number) → map g latches ≡ latch_bits_from state first latches
bits_are g state first [] each = refl
bits_are g state first (l ∷ latches) each =
    ap₂ (λ b bs. b ∷ bs) (each 0 first l (omega arith) refl)
    (bits_are g state (suc first) latches (λ k number x e is. each (suc k) number x (omega arith) is))

bits_at : (state : ℕ → Bool) (first : ℕ) (latches : List LatchRow) (k number : ℕ) (l : LatchRow) → number ≡ first + k → slice_get latches k ≡ Some l → slice_get (latch_bits_from state first latches) k ≡ Some (state number)
bits_at state first [] k number l e is = absurd (none-some l is)
bits_at state first (x ∷ latches) zero number l e is = let same : first ≡ number = omega arith in ap (λ n. Some (state n)) same
bits_at state first (x ∷ latches) (suc k) number l e is = bits_at state (suc first) latches k number l (omega arith) is

length_bits : (state : ℕ → Bool) (first : ℕ) (latches : List LatchRow) → length (latch_bits_from state first latches) ≡ length latches
length_bits state first [] = refl
length_bits state first (l ∷ latches) = ap suc (length_bits state (suc first) latches)

abbrev pub latches_of : Model → List LatchRow
latches_of m = m.latches

-- a bit for each flat latch is that for each latch of each place
pub latch_bits : (design : Design) (flat : Flat) → IsFlatOf design flat → (g : FlatLatch → Bool) (state : LatchState)
    → ((place : Place) (number : ℕ) (l : LatchRow) → latch_at design place number ≡ Some l → g (flat_latch design place l) ≡ state place number)
    → map g flat.latches ≡ state_in_order design state
latch_bits design flat h g state each = ap (map g) h.latches ∙ map_flat g _ _ (places_in_order design) at_place
  where
    of_model : (place : Place) (o : Option Model) → model_at design place ≡ o → map g (map (flat_latch design place) (of_some latches_of o)) ≡ latch_bits_from (state place) 0 (of_some latches_of o)
    of_model place None e = refl
    of_model place (Some m) e =
        map-map g (flat_latch design place) m.latches
        ∙ bits_are (λ l. g (flat_latch design place l)) (state place) 0 m.latches
        (λ k number l same is. let number_is : k ≡ number = omega arith in subst (λ n. g (flat_latch design place l) ≡ state place n) number_is (each place k l (ap (option_and_then (λ (m : Model). slice_get m.latches k)) e ∙ is)))

    at_place : (place : Place) → In place (places_in_order design) → map g (map (flat_latch design place) (of_some latches_of (model_at design place))) ≡ latch_bits_from (state place) 0 (of_some latches_of (model_at design place))
    at_place place i = of_model place (model_at design place) refl

latch_bit : (design : Design) (flat : Flat) → AreFaultless design.models → IsFlatOf design flat → (g : FlatLatch → Bool) (state : LatchState) → map g flat.latches ≡ state_in_order design state
    → (place : Place) (number : ℕ) (l : LatchRow) → latch_at design place number ≡ Some l → g (flat_latch design place l) ≡ state place number
latch_bit design flat faultless h g state same place number l is_l =
    let (m, is_m, is_latch) = and_then-from (λ (m : Model). slice_get m.latches number) (model_at design place) l is_l in
    let whole : flat_map mine (places_in_order design) ≡ flat_map theirs (places_in_order design) = sym (map_flat g (λ place. map (flat_latch design place) (of_some latches_of (model_at design place))) mine (places_in_order design) (λ p i. refl)) ∙ sym (ap (map g) h.latches) ∙ same in
    let here : mine place ≡ theirs place = flat_same mine theirs (places_in_order design) as_long whole place (place_listed design (not_recursive design faultless) place m is_m) in
    let parts : map g (map (flat_latch design place) m.latches) ≡ latch_bits_from (state place) 0 m.latches = sym (ap (λ o. map g (map (flat_latch design place) (of_some latches_of o))) is_m) ∙ here ∙ ap (λ o. latch_bits_from (state place) 0 (of_some latches_of o)) is_m in
    same_Some _ _ (sym (slice_get-map g (map (flat_latch design place) m.latches) number ∙ ap (option_map g) (slice_get-map (flat_latch design place) m.latches number ∙ ap (option_map (flat_latch design place)) is_latch))
    ∙ ap (λ bs. slice_get bs number) parts ∙ bits_at (state place) 0 m.latches number number l (omega arith) is_latch)
  where
    mine : Place → List Bool
    mine place = map g (map (flat_latch design place) (of_some latches_of (model_at design place)))

    theirs : Place → List Bool
    theirs place = latch_bits_from (state place) 0 (of_some latches_of (model_at design place))

    as_long : (place : Place) → length (mine place) ≡ length (theirs place)
    as_long place = length-map (map (flat_latch design place) (of_some latches_of (model_at design place))) g ∙ length-map (of_some latches_of (model_at design place)) (flat_latch design place) ∙ sym (length_bits (state place) 0 (of_some latches_of (model_at design place)))

-- the bits of main ports
port_bits : (design : Design) (flat : Flat) (ports : List Port) (flat_ports : List FlatPort) (bits : ℕ → Bool) → flat_ports ≡ map (flat_port design) ports
    → map (λ (port : FlatPort). bits (class_of flat port.net)) flat_ports ≡ map (net_bits design flat bits []) (port_names ports)
port_bits design flat ports flat_ports bits e =
    ap (map (λ (port : FlatPort). bits (class_of flat port.net))) e
    ∙ map-map (λ (port : FlatPort). bits (class_of flat port.net)) (flat_port design) ports
    ∙ sym (map-map (net_bits design flat bits []) (λ (p : Port). p.name) ports)

-- the bit at the class of a net is that of its root
root_bit : (design : Design) (flat : Flat) → AreFaultless design.models → IsFlatOf design flat → (bits : Valuation) (net : Net) → IsNet design net → net_bits design flat (class_bits design bits) net.place net.name ≡ bit_of_net bits (root design net)
root_bit design flat faultless h bits net n =
    ap (class_bits design bits) (class_is design flat faultless h net n)
    ∙ ap (λ o. unwrap_or (option_map (bit_of_net bits) o) false) (net_there design faultless (root design net) (root_is_net design faultless net n))

pub same_bit : (design : Design) (flat : Flat) → AreFaultless design.models → IsFlatOf design flat → (inputs : List Bool) (state : LatchState) (bits : Valuation) → IsValuation design inputs state bits
    → (net : Net) → IsNet design net → ¬ IsClockNet design net → net_bits design flat (class_bits design bits) net.place net.name ≡ bits net.place net.name
same_bit design flat faultless h inputs state bits v net n away =
    root_bit design flat faultless h bits net n ∙ sym (v.joined_agree net (root design net) (root_joined design faultless net) away)

pub is_flat : (design : Design) (flat : Flat) → AreFaultless design.models → HasNoClockFault design → IsFlatOf design flat → (inputs : List Bool) (state : LatchState) (bits : Valuation) → IsValuation design inputs state bits
    → IsFlatValuation flat inputs (state_in_order design state) (class_bits design bits)
is_flat design flat faultless clean h inputs state bits v = record {
  inputs_given = port_bits design flat h.in_ports flat.ins (class_bits design bits) h.ins ∙ ins ∙ names ∙ v.inputs_given;
  latches_hold = latch_bits design flat h (λ (l : FlatLatch). class_bits design bits (class_of flat l.output)) state latches;
  nodes_hold = nodes;
}
  where
    names : map (bits []) (port_names h.in_ports) ≡ map (bits []) v.in_names
    names = ap (map (bits [])) (in_names_are_one design (port_names h.in_ports) v.in_names (ports_names design (main_ports (λ (m : Model). m.ins) design) h.in_ports h.are_in_ports) v.are_in_names)

    ins : map (net_bits design flat (class_bits design bits) []) (port_names h.in_ports) ≡ map (bits []) (port_names h.in_ports)
    ins = map_in (net_bits design flat (class_bits design bits) []) (bits []) (port_names h.in_ports) (λ name i.
        let (p, j, e) = in_mapped (λ (q : Port). q.name) h.in_ports name i in
        root_bit design flat faultless h bits (net_at [] name) (subst (λ v. IsNet design (net_at [] v)) (sym e) (in_port_net design flat h p j)) ∙ ap (bit_of_net bits) (root_of_top design name))

    used : (line position : ℕ) (net : Net) → IsNet design net → IsUse design line position net → net_bits design flat (class_bits design bits) net.place net.name ≡ bits net.place net.name
    used line position net n u = same_bit design flat faultless h inputs state bits v net n (λ clock. (wired design faultless clean).clocks_unread line position net (u, clock))

    latches : (place : Place) (number : ℕ) (l : LatchRow) → latch_at design place number ≡ Some l → class_bits design bits (class_of flat (id_of design place l.output)) ≡ state place number
    latches place number l is_l =
        let (m, is_m, is_latch) = and_then-from (λ (m : Model). slice_get m.latches number) (model_at design place) l is_l in
        let i : In l m.latches = in_got m.latches number l is_latch in
        used l.line 1 (net_at place l.output) (is_net_of design place m l.output is_m (latch_name m l l.output i (inr (inl refl)))) (by_latch is_m (contains_from m.latches l i) refl)
        ∙ v.latches_hold place number l is_l

    nodes : (n : ℕ) → n < length flat.nodes → class_bits design bits (out_class flat n) ≡ node_value flat (class_bits design bits) n
    nodes n less = subst (λ (x : Node). class_bits design bits (class_of flat x.out) ≡ cover_value x.rows x.on (map (λ (net : NetId). class_bits design bits (class_of flat net)) x.ins)) (sym r.is_node) here
      where
        r : NodeIs design flat n
        r = node_is design flat h n less

        c : Cover
        c = r.cover

        here : class_bits design bits (class_of flat (id_of design r.place r.cover.out)) ≡ cover_value r.cover.rows r.cover.on (map (λ (net : NetId). class_bits design bits (class_of flat net)) (map (id_of design r.place) r.cover.ins))
        here =
            used r.cover.line (length r.cover.ins) (net_at r.place r.cover.out) (is_net_of design r.place r.model r.cover.out r.has_model (cover_name r.model r.cover r.cover.out r.has_cover (in_right r.cover.ins (r.cover.out ∷ []) r.cover.out (inl refl))))
            (by_cover r.has_model (contains_from r.model.covers r.cover r.has_cover) (at_end r.cover.ins r.cover.out))
            ∙ v.covers_hold r.place r.model r.cover r.has_model (contains_from r.model.covers r.cover r.has_cover)
            ∙ ap (cover_value r.cover.rows r.cover.on) (sym (map_in (λ name. class_bits design bits (class_of flat (id_of design r.place name))) (bits r.place) r.cover.ins read)
            ∙ sym (map-map (λ (net : NetId). class_bits design bits (class_of flat net)) (id_of design r.place) r.cover.ins))
          where
            read : (name : Name) → In name r.cover.ins → class_bits design bits (class_of flat (id_of design r.place name)) ≡ bits r.place name
            read name i =
                let j : In name (r.cover.ins ++ r.cover.out ∷ []) = in_left r.cover.ins (r.cover.out ∷ []) name i in
                let (k, e) = got_from (r.cover.ins ++ r.cover.out ∷ []) name j in
                used r.cover.line k (net_at r.place name) (is_net_of design r.place r.model name r.has_model (cover_name r.model r.cover name r.has_cover j))
                (by_cover r.has_model (contains_from r.model.covers r.cover r.has_cover) e)

pub of_flat : (design : Design) (flat : Flat) → AreFaultless design.models → IsFlatOf design flat → (inputs : List Bool) (state : LatchState) (bits : ℕ → Bool) → IsFlatValuation flat inputs (state_in_order design state) bits
    → IsValuation design inputs state (net_bits design flat bits)
of_flat design flat faultless h inputs state bits v = record {
  in_names = port_names h.in_ports;
  are_in_names = ports_names design (main_ports (λ (m : Model). m.ins) design) h.in_ports h.are_in_ports;
  inputs_given = sym (port_bits design flat h.in_ports flat.ins bits h.ins) ∙ v.inputs_given;
  joined_agree = agree;
  covers_hold = covers;
  latches_hold = λ place number l is_l. latch_bit design flat faultless h (λ (l : FlatLatch). bits (class_of flat l.output)) state v.latches_hold place number l is_l;
}
  where
    agree : (a b : Net) → Joined design a b → ¬ IsClockNet design a → net_bits design flat bits a.place a.name ≡ net_bits design flat bits b.place b.name
    agree a b j away = elim (joined_nets design faultless a b j) as (λ _. net_bits design flat bits a.place a.name ≡ net_bits design flat bits b.place b.name) [
      | inl same ↦ ap (λ (n : Net). net_bits design flat bits n.place n.name) same
      | inr nets ↦ ap bits (class_is design flat faultless h a nets.0 ∙ joined_class design faultless a b j ∙ sym (class_is design flat faultless h b nets.1))
    ]

    covers : (place : Place) (m : Model) (c : Cover) → model_at design place ≡ Some m → Contains m.covers c → net_bits design flat bits place c.out ≡ cover_value c.rows c.on (map (net_bits design flat bits place) c.ins)
    covers place m c is_m has =
        let (n, less, is) = is_node design flat faultless h place m c is_m (in_from m.covers c has) in
        subst (λ (x : Node). bits (class_of flat x.out) ≡ cover_value x.rows x.on (map (λ (net : NetId). bits (class_of flat net)) x.ins)) is (v.nodes_hold n less)
        ∙ ap (cover_value c.rows c.on) (map-map (λ (net : NetId). bits (class_of flat net)) (id_of design place) c.ins)

pub valuations_are_flat : ValuationsAreFlat
valuations_are_flat design flat faultless clean h = record {
  is_flat = is_flat design flat faultless clean h;
  same_bits = same_bit design flat faultless h;
  of_flat = of_flat design flat faultless h;
  outputs = λ bits. port_bits design flat (main_ports (λ (m : Model). m.outs) design) flat.outs bits h.outs;
  starts = latch_bits design flat h (λ (l : FlatLatch). l.init == 1) (start_state design) (λ place number l is_l. sym (ap start_bit is_l));
  next = λ bits. latch_bits design flat h (λ (l : FlatLatch). bits (class_of flat l.input)) (latches_after design (net_bits design flat bits)) (λ place number l is_l. sym (ap (data_bit (net_bits design flat bits place)) is_l));
}

pub flat_length : {X Y Z : Type 0} (f : X → List Y) (g : X → List Z) (xs : List X) → ((x : X) → length (f x) ≡ length (g x)) → length (flat_map f xs) ≡ length (flat_map g xs)
flat_length f g [] same = refl
flat_length f g (x ∷ xs) same = length-append (f x) (flat_map f xs) ∙ ap₂ (λ a b. a + b) (same x) (flat_length f g xs same) ∙ sym (length-append (g x) (flat_map g xs))

pub state_length : (design : Design) (flat : Flat) → IsFlatOf design flat → (state : LatchState) → length (state_in_order design state) ≡ length flat.latches
state_length design flat h state =
    flat_length (λ place. latch_bits_from (state place) 0 (of_some latches_of (model_at design place))) (λ place. map (flat_latch design place) (of_some latches_of (model_at design place))) (places_in_order design)
    (λ place. length_bits (state place) 0 (of_some latches_of (model_at design place)) ∙ sym (length-map (of_some latches_of (model_at design place)) (flat_latch design place)))
    ∙ sym (ap (λ (ls : List FlatLatch). length ls) h.latches)
