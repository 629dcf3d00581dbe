-- The flat netlist is there, its ports are the main model's, and what follows of orders and cycles.
use Rattle.std.proofs.Common.{ℕ, ◌≡◌, ◌≢◌, List, [], ◌∷◌, Option, Some, None, option_map, unwrap_or, get_or, map, length, refl, sym, ap, ◌∙◌, subst}
use Rattle.std.specs.Prelude.{AllPairs, Bool, true}
use Rattle.std.proofs.lemmas.List.{length-map}
use Rattle.std.proofs.lemmas.Simd.{map-map}
use Rattle.netlist_core.specs.declared.model.Design.{Design}
use Rattle.netlist_core.specs.declared.model.Model.{Model}
use Rattle.netlist_core.specs.declared.model.Port.{Port}
use Rattle.netlist_core.specs.Names.{Name, port_names}
use Rattle.netlist_meaning.specs.Places.{main_model, main_ports}
use Rattle.netlist_meaning.specs.Nets.{net_at, IsNet, IsInNames, WithoutControl}
use Rattle.netlist_meaning.specs.Weight.{weight}
use Rattle.netlist_meaning.proofs.InNames.{in_names_are_there}
use Rattle.netlist_meaning.proofs.Joined.{in_names_are_one}
use Rattle.netlist_rules.specs.ModelFaults.{AreFaultless}
use Rattle.lists.proofs.Members.{In, in_mapped, in_got, map_in}
use Rattle.flat_designs.proofs.Faultless.{not_recursive, formals_once}
use Rattle.netlist_core.specs.declared.flat.FlatPort.{FlatPort}
use Rattle.netlist_core.specs.declared.flat.FlatLatch.{FlatLatch}
use Rattle.netlist_core.specs.declared.flat.Flat.{Flat}
use Rattle.netlist_meaning.specs.Flat.{no_net, AreNamedPorts}
use Rattle.netlist_eval.proofs.Valuations.{one_valuation}
use Rattle.netlist_meaning.specs.InOrder.{nets_in_order}
use Rattle.netlist_meaning.specs.FlatOf.{position_of, id_of, class_of_net, flat_net, flat_node, flat_latch, flat_port, at_places, first_control, PortsWithoutControl, IsFlatOf}
use Rattle.netlist_core.specs.declared.flat.Net.{Net as FlatNet}
use Rattle.flat_designs.specs.Laws.{class_bits, net_bits, state_in_order, FlatIsThere, FlatIsOne, AreMainPorts, HasFlatPorts, PortsAreFlat, DesignsHaveOneValuation, CyclesAreFlat, FlatIsNamed}
use Rattle.netlist_meaning.specs.Flat.{names_of_ports}
use Rattle.flat_designs.proofs.Lists.{all_of, Pairs, all_pairs}
use Rattle.flat_designs.proofs.Ports.{OtherName, inputs_apart, outputs_apart, kept_apart, names_apart}
use Rattle.flat_designs.proofs.Names.{output_name, clock_name}
use Rattle.flat_designs.proofs.Classes.{net_there, flat_net_at, class_is}
use Rattle.flat_designs.proofs.Valuations.{ports_names, in_port_net, is_flat, of_flat, same_bit, state_length, valuations_are_flat}
use Rattle.flat_designs.proofs.Clocks.{clock_class}
use Rattle.flat_designs.proofs.Sound.{main_net, has_driver, flat_is_sound}

in_ports_there : (design : Design) (ports : List Port) (names : List Name) → WithoutControl design (port_names ports) names → (rest : List Port) × PortsWithoutControl design ports rest
in_ports_there design [] names Rattle.netlist_meaning.specs.Nets.WithoutControl.none = ([], Rattle.netlist_meaning.specs.FlatOf.PortsWithoutControl.none)
in_ports_there design (p ∷ ports) names (Rattle.netlist_meaning.specs.Nets.WithoutControl.kept {rest = others} away h) = let (rest, k) = in_ports_there design ports others h in (p ∷ rest, Rattle.netlist_meaning.specs.FlatOf.PortsWithoutControl.kept away k)
in_ports_there design (p ∷ ports) names (Rattle.netlist_meaning.specs.Nets.WithoutControl.left_out c h) = let (rest, k) = in_ports_there design ports names h in (rest, Rattle.netlist_meaning.specs.FlatOf.PortsWithoutControl.left_out c k)

pub flat_is_there : FlatIsThere
flat_is_there design faultless =
    let (names, are_names) = in_names_are_there design (formals_once design faultless) (not_recursive design faultless) in
    let (in_ports, are_in_ports) = in_ports_there design (main_ports (λ (m : Model). m.ins) design) names are_names in (
      record {
        nets = map (flat_net design) (nets_in_order design);
        ins = map (flat_port design) in_ports;
        outs = map (flat_port design) (main_ports (λ (m : Model). m.outs) design);
        clocks = map (flat_port design) (main_ports (λ (m : Model). m.clocks) design);
        nodes = at_places design (λ (m : Model). m.covers) (flat_node design);
        latches = at_places design (λ (m : Model). m.latches) (flat_latch design);
        control = first_control (at_places design (λ (m : Model). m.latches) (flat_latch design));
        weight = weight design;
        listed = true;
      },
      record { in_ports = in_ports; are_in_ports = are_in_ports; nets = refl; nodes = refl; latches = refl; ins = refl; outs = refl; clocks = refl; control = refl; weight = refl; listed = refl },
    )

port_net : (design : Design) (flat : Flat) → AreFaultless design.models → IsFlatOf design flat → (p : Port) → IsNet design (net_at [] p.name) → get_or flat.nets (id_of design [] p.name).0 no_net ≡ flat_net design (net_at [] p.name)
port_net design flat faultless h p n = flat_net_at design flat h (position_of (nets_in_order design) (net_at [] p.name)) (net_at [] p.name) (net_there design faultless (net_at [] p.name) n)

names_are : (design : Design) (flat : Flat) → AreFaultless design.models → IsFlatOf design flat → (ports : List Port) (flat_ports : List FlatPort) → flat_ports ≡ map (flat_port design) ports → ((p : Port) → In p ports → IsNet design (net_at [] p.name)) → names_of_ports flat flat_ports ≡ port_names ports
names_are design flat faultless h ports flat_ports e nets =
    ap (names_of_ports flat) e
    ∙ map-map (λ (port : FlatPort). (get_or flat.nets port.net.0 no_net).name) (flat_port design) ports
    ∙ map_in (λ (p : Port). (get_or flat.nets (id_of design [] p.name).0 no_net).name) (λ (p : Port). p.name) ports (λ p i. ap (λ (x : FlatNet). x.name) (port_net design flat faultless h p (nets p i)))

are_main : (design : Design) (flat : Flat) → AreFaultless design.models → IsFlatOf design flat → (ports : List Port) (flat_ports : List FlatPort) → flat_ports ≡ map (flat_port design) ports → ((p : Port) → In p ports → IsNet design (net_at [] p.name)) → AreMainPorts flat flat_ports
are_main design flat faultless h ports flat_ports e nets = all_of (λ (port : FlatPort). (get_or flat.nets port.net.0 no_net).place ≡ []) flat_ports (λ x i.
    let (p, j, same) = in_mapped (flat_port design) ports x (subst (λ ps. In x ps) e i) in
    ap (λ (port : FlatPort). (get_or flat.nets port.net.0 no_net).place) same ∙ ap (λ (v : FlatNet). v.place) (port_net design flat faultless h p (nets p j)))

pub ports_are_flat : PortsAreFlat
ports_are_flat design flat faultless h = record {
  ins = subst (IsInNames design) (sym (names_are design flat faultless h h.in_ports flat.ins h.ins (in_port_net design flat h))) (ports_names design (main_ports (λ (m : Model). m.ins) design) h.in_ports h.are_in_ports);
  outs = names_are design flat faultless h (main_ports (λ (m : Model). m.outs) design) flat.outs h.outs (main_net design (λ (m : Model). m.outs) output_name);
  clocks = names_are design flat faultless h (main_ports (λ (m : Model). m.clocks) design) flat.clocks h.clocks (main_net design (λ (m : Model). m.clocks) clock_name);
  main_ins = are_main design flat faultless h h.in_ports flat.ins h.ins (in_port_net design flat h);
  main_outs = are_main design flat faultless h (main_ports (λ (m : Model). m.outs) design) flat.outs h.outs (main_net design (λ (m : Model). m.outs) output_name);
  main_clocks = are_main design flat faultless h (main_ports (λ (m : Model). m.clocks) design) flat.clocks h.clocks (main_net design (λ (m : Model). m.clocks) clock_name);
}

-- the names of the flat ports differ
main_outs_apart : (design : Design) → AreFaultless design.models → (o : Option Model) → main_model design ≡ o → Pairs OtherName (unwrap_or (option_map (λ (m : Model). m.outs) o) [])
main_outs_apart design faultless None e = tt
main_outs_apart design faultless (Some m) e = outputs_apart design.models faultless m (in_got design.models 0 m e)

main_ins_apart : (design : Design) → AreFaultless design.models → (o : Option Model) → main_model design ≡ o → Pairs OtherName (unwrap_or (option_map (λ (m : Model). m.ins) o) [])
main_ins_apart design faultless None e = tt
main_ins_apart design faultless (Some m) e = inputs_apart design.models faultless m (in_got design.models 0 m e)

named : (flat : Flat) (ports : List FlatPort) (own : List Port) → AreMainPorts flat ports → names_of_ports flat ports ≡ port_names own → Pairs OtherName own → AreNamedPorts flat ports
named flat ports own main same apart = record { main = main; distinct = subst (AllPairs (λ (a b : Name). a ≢ b)) (sym same) (all_pairs (λ (a b : Name). a ≢ b) (port_names own) (names_apart own apart)) }

pub flat_is_named : FlatIsNamed
flat_is_named design flat faultless h =
    let p : HasFlatPorts design flat = ports_are_flat design flat faultless h in
    let ins : Pairs OtherName (main_ports (λ (m : Model). m.ins) design) = main_ins_apart design faultless (main_model design) refl in
    record {
      ins = named flat flat.ins h.in_ports p.main_ins (names_are design flat faultless h h.in_ports flat.ins h.ins (in_port_net design flat h)) (kept_apart design (main_ports (λ (m : Model). m.ins) design) h.in_ports h.are_in_ports ins);
      outs = named flat flat.outs (main_ports (λ (m : Model). m.outs) design) p.main_outs p.outs (main_outs_apart design faultless (main_model design) refl);
    }

pub designs_have_one_valuation : DesignsHaveOneValuation
designs_have_one_valuation design flat faultless clean h light order is_order names are_names inputs long state =
    let fits : length inputs ≡ length flat.ins =
    long ∙ ap (λ (ns : List Name). length ns) (in_names_are_one design names (port_names h.in_ports) are_names (ports_names design (main_ports (λ (m : Model). m.ins) design) h.in_ports h.are_in_ports))
    ∙ length-map h.in_ports (λ (p : Port). p.name) ∙ sym (length-map h.in_ports (flat_port design)) ∙ sym (ap (λ (ps : List FlatPort). length ps) h.ins) in
    let (bits, solves, alone) = one_valuation flat (flat_is_sound design flat faultless clean h light) order is_order inputs (state_in_order design state) fits (state_length design flat h state) in (
      net_bits design flat bits,
      of_flat design flat faultless h inputs state bits solves,
      λ others v net n away.
          let (d, drives) = has_driver design flat faultless clean h net n (λ c. away (clock_class design flat faultless h net n c)) in
          ap bits (class_is design flat faultless h net n)
          ∙ alone (class_bits design others) (is_flat design flat faultless clean h inputs state others v) (class_of_net design net) d drives
          ∙ sym (ap (class_bits design others) (class_is design flat faultless h net n))
          ∙ same_bit design flat faultless h inputs state others v net n away,
    )

pub cycles_are_flat : CyclesAreFlat
cycles_are_flat design flat faultless clean h inputs outputs next state c =
    let v = valuations_are_flat design flat faultless clean h in
    (net_bits design flat c.bits, of_flat design flat faultless h inputs state c.bits c.solves, c.outputs_are ∙ v.outputs c.bits, c.next_is ∙ v.next c.bits)

-- the same ports are left out
in_ports_one : (design : Design) (ports rest others : List Port) → PortsWithoutControl design ports rest → PortsWithoutControl design ports others → rest ≡ others
in_ports_one design [] rest others Rattle.netlist_meaning.specs.FlatOf.PortsWithoutControl.none Rattle.netlist_meaning.specs.FlatOf.PortsWithoutControl.none = refl
in_ports_one design (p ∷ ports) rest others (Rattle.netlist_meaning.specs.FlatOf.PortsWithoutControl.kept {rest = a} h k) (Rattle.netlist_meaning.specs.FlatOf.PortsWithoutControl.kept {rest = b} h' k') = ap (λ r. p ∷ r) (in_ports_one design ports a b k k')
in_ports_one design (p ∷ ports) rest others (Rattle.netlist_meaning.specs.FlatOf.PortsWithoutControl.kept h k) (Rattle.netlist_meaning.specs.FlatOf.PortsWithoutControl.left_out h' k') = absurd (h h')
in_ports_one design (p ∷ ports) rest others (Rattle.netlist_meaning.specs.FlatOf.PortsWithoutControl.left_out h k) (Rattle.netlist_meaning.specs.FlatOf.PortsWithoutControl.kept h' k') = absurd (h' h)
in_ports_one design (p ∷ ports) rest others (Rattle.netlist_meaning.specs.FlatOf.PortsWithoutControl.left_out h k) (Rattle.netlist_meaning.specs.FlatOf.PortsWithoutControl.left_out h' k') = in_ports_one design ports rest others k k'

-- the flat netlist of given IN ports
flat_of : Design → List Port → Flat
flat_of design in_ports = record {
  nets = map (flat_net design) (nets_in_order design);
  ins = map (flat_port design) in_ports;
  outs = map (flat_port design) (main_ports (λ (m : Model). m.outs) design);
  clocks = map (flat_port design) (main_ports (λ (m : Model). m.clocks) design);
  nodes = at_places design (λ (m : Model). m.covers) (flat_node design);
  latches = at_places design (λ (m : Model). m.latches) (flat_latch design);
  control = first_control (at_places design (λ (m : Model). m.latches) (flat_latch design));
  weight = weight design;
  listed = true;
}

abbrev with_fields : List FlatNet → List FlatPort → List FlatPort → List FlatPort → List Rattle.netlist_core.specs.declared.flat.Node.Node → List FlatLatch → Rattle.std.specs.Prelude.Option Rattle.netlist_core.specs.declared.flat.NetId.NetId → ℕ → Bool → Flat
with_fields a b c d e f g w l = record { nets = a; ins = b; outs = c; clocks = d; nodes = e; latches = f; control = g; weight = w; listed = l }

is_flat_of : (design : Design) (flat : Flat) (h : IsFlatOf design flat) → flat ≡ flat_of design h.in_ports
unfolding flat_of
is_flat_of design flat h =
    ap (λ x. with_fields x flat.ins flat.outs flat.clocks flat.nodes flat.latches flat.control flat.weight flat.listed) h.nets
    ∙ ap (λ x. with_fields (map (flat_net design) (nets_in_order design)) x flat.outs flat.clocks flat.nodes flat.latches flat.control flat.weight flat.listed) h.ins
    ∙ ap (λ x. with_fields (map (flat_net design) (nets_in_order design)) (map (flat_port design) h.in_ports) x flat.clocks flat.nodes flat.latches flat.control flat.weight flat.listed) h.outs
    ∙ ap (λ x. with_fields (map (flat_net design) (nets_in_order design)) (map (flat_port design) h.in_ports) (map (flat_port design) (main_ports (λ (m : Model). m.outs) design)) x flat.nodes flat.latches flat.control flat.weight flat.listed) h.clocks
    ∙ ap (λ x. with_fields (map (flat_net design) (nets_in_order design)) (map (flat_port design) h.in_ports) (map (flat_port design) (main_ports (λ (m : Model). m.outs) design)) (map (flat_port design) (main_ports (λ (m : Model). m.clocks) design)) x flat.latches flat.control flat.weight flat.listed) h.nodes
    ∙ ap (λ x. with_fields (map (flat_net design) (nets_in_order design)) (map (flat_port design) h.in_ports) (map (flat_port design) (main_ports (λ (m : Model). m.outs) design)) (map (flat_port design) (main_ports (λ (m : Model). m.clocks) design)) (at_places design (λ (m : Model). m.covers) (flat_node design)) flat.latches x flat.weight flat.listed) h.control
    ∙ ap (λ x. with_fields (map (flat_net design) (nets_in_order design)) (map (flat_port design) h.in_ports) (map (flat_port design) (main_ports (λ (m : Model). m.outs) design)) (map (flat_port design) (main_ports (λ (m : Model). m.clocks) design)) (at_places design (λ (m : Model). m.covers) (flat_node design)) x (first_control x) flat.weight flat.listed) h.latches
    ∙ ap (λ x. with_fields (map (flat_net design) (nets_in_order design)) (map (flat_port design) h.in_ports) (map (flat_port design) (main_ports (λ (m : Model). m.outs) design)) (map (flat_port design) (main_ports (λ (m : Model). m.clocks) design)) (at_places design (λ (m : Model). m.covers) (flat_node design)) (at_places design (λ (m : Model). m.latches) (flat_latch design)) (first_control (at_places design (λ (m : Model). m.latches) (flat_latch design))) x flat.listed) h.weight
    ∙ ap (λ x. with_fields (map (flat_net design) (nets_in_order design)) (map (flat_port design) h.in_ports) (map (flat_port design) (main_ports (λ (m : Model). m.outs) design)) (map (flat_port design) (main_ports (λ (m : Model). m.clocks) design)) (at_places design (λ (m : Model). m.covers) (flat_node design)) (at_places design (λ (m : Model). m.latches) (flat_latch design)) (first_control (at_places design (λ (m : Model). m.latches) (flat_latch design))) (weight design) x) h.listed

pub flat_is_one : FlatIsOne
flat_is_one design flat other h k =
    is_flat_of design flat h
    ∙ ap (flat_of design) (in_ports_one design (main_ports (λ (m : Model). m.ins) design) h.in_ports k.in_ports h.are_in_ports k.are_in_ports)
    ∙ sym (is_flat_of design other k)
