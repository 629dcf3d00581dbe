-- The names of the flat netlist of a text's design can stand in a port table.
use Rattle.std.proofs.Common.{◌≡◌, ◌≢◌, refl, sym, ◌∙◌, ap, subst, ℕ, zero, suc, ◌<◌, true, false, true≢false, List, [], ◌∷◌, length, map, get_or, arith, Bool}
use Rattle.std.specs.Prelude.{All}
use Rattle.std.specs.List.{list_any}
use Rattle.std.proofs.lemmas.Bool.{or_parts}
use Rattle.std.proofs.lemmas.List.Elements.{All-map}
use Rattle.std.proofs.lemmas.Simd.{map-map}
use Rattle.netlist_core.specs.declared.flat.Net.{Net as FlatNet}
use Rattle.netlist_core.specs.declared.flat.Flat.{Flat}
use Rattle.netlist_core.specs.declared.flat.FlatPort.{FlatPort}
use Rattle.netlist_core.specs.declared.model.Design.{Design}
use Rattle.netlist_core.specs.declared.model.Model.{Model}
use Rattle.netlist_core.specs.declared.model.Port.{Port}
use Rattle.netlist_core.specs.Names.{Name}
use Rattle.netlist_meaning.specs.InOrder.{nets_in_order}
use Rattle.netlist_meaning.specs.Flat.{name_of_net, names_of_ports}
use Rattle.netlist_meaning.specs.FlatOf.{position_of, id_of, flat_net, flat_port, IsFlatOf}
use Rattle.netlist_meaning.specs.Nets.{Net, IsNet, net_at}
use Rattle.netlist_meaning.specs.Places.{main_ports}
use Rattle.blif_text.specs.Faults.{IsDesignOf}
use Rattle.blif_text.specs.LogicalLines.{is_newline}
use Rattle.lists.proofs.Members.{In}
use Rattle.netlist_plans.specs.TextNames.{IsNameWord}
use Rattle.netlist_plans.proofs.Words.{nets_are_words}
use Rattle.flat_designs.proofs.Classes.{flat_net_at, net_there}
use Rattle.flat_designs.proofs.Listed.{net_is}
use Rattle.flat_designs.proofs.Lists.{all_of}
use Rattle.flat_designs.proofs.Names.{output_name}
use Rattle.flat_designs.proofs.Sound.{main_net}
use Rattle.flat_designs.proofs.Valuations.{in_port_net}
use Rattle.plan_ports.proofs.Listed.{all_listed}
use Rattle.pattern_reading.specs.Spelling.{IsPortName}
use Rattle.netlist_plans.specs.Names.{TextsHavePortNames}

none_at : (p : ℕ → Bool) (xs : List ℕ) → list_any p xs ≡ false → (k : ℕ) (d : ℕ) → k < length xs → p (get_or xs k d) ≡ false
none_at p [] e k d lt = absurd (omega arith)
none_at p (x ∷ xs) e zero d lt = (or_parts (p x) (list_any p xs) e).0
none_at p (x ∷ xs) e (suc k) d lt = none_at p xs (or_parts (p x) (list_any p xs) e).1 k d (omega arith)

other : (p : ℕ → Bool) (b n : ℕ) → p b ≡ false → p n ≡ true → b ≢ n
other p b n fails passes same = true≢false (sym passes ∙ sym (ap p same) ∙ fails)

port_name : (name : Name) → IsNameWord name → IsPortName name
port_name name w = (w.some, λ k d lt. other is_newline (get_or name k d) 10 (none_at is_newline name w.one_line k d lt) refl)

module _ (text : List ℕ) (design : Design) (flat : Flat) (of_text : IsDesignOf text design) (h : IsFlatOf design flat) where
  net_named : (net : Net) → IsNet design net → IsPortName net.name
  net_named net n = port_name net.name (nets_are_words text design of_text net n)

  -- the names of ports, each of which is a net of the main model
  ports_named : (ports : List Port) (flat_ports : List FlatPort) → flat_ports ≡ map (flat_port design) ports → ((port : Port) → In port ports → IsNet design (net_at [] port.name))
      → All IsPortName (names_of_ports flat flat_ports)
  ports_named ports flat_ports are nets =
      subst (λ (names : List Name). All IsPortName names) (sym (ap (names_of_ports flat) are ∙ map-map (λ (port : FlatPort). name_of_net flat port.net) (flat_port design) ports))
      (All-map IsPortName (λ (port : Port). name_of_net flat (id_of design [] port.name)) ports
      (all_of (λ (port : Port). IsPortName (name_of_net flat (id_of design [] port.name))) ports (λ port i.
      (let n = nets port i in
      let net = net_at [] port.name in
      subst IsPortName
      (sym (ap (λ (x : FlatNet). x.name) (flat_net_at design flat h (position_of (nets_in_order design) net) net (net_there design of_text.faultless net n))))
      (net_named net n)))))

  nets_named : All (λ (net : FlatNet). IsPortName net.name) flat.nets
  nets_named =
      subst (All (λ (net : FlatNet). IsPortName net.name)) (sym h.nets)
      (All-map (λ (net : FlatNet). IsPortName net.name) (flat_net design) (nets_in_order design)
      (all_of (λ (net : Net). IsPortName net.name) (nets_in_order design) (λ net i. net_named net (net_is design net i))))

pub texts_have_port_names : TextsHavePortNames
texts_have_port_names text design flat of_text h = record {
  ins = ports_named text design flat of_text h h.in_ports flat.ins h.ins (in_port_net design flat h);
  outs = ports_named text design flat of_text h (main_ports (λ (m : Model). m.outs) design) flat.outs h.outs (main_net design (λ (m : Model). m.outs) output_name);
  nets = all_listed (λ (net : FlatNet). IsPortName net.name) flat (nets_named text design flat of_text h);
}
