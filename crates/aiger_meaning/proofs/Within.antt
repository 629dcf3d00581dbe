-- The flat netlist of a sound circuit is within its ranges.
use Rattle.std.proofs.Common.{ℕ, zero, suc, ◌+◌, ◌<◌, ◌^◌, ◌≡◌, inl, inr, refl, sym, ap, ◌∙◌, subst, List, [], ◌∷◌, ◌++◌, map, flat_map, length, get_or, arith}
use Rattle.std.specs.Prelude.{All, Contains, MatchOption, ⊤, Option}
use Rattle.std.proofs.lemmas.List.Elements.{All-append, All-contains, All-map}
use Rattle.lists.proofs.Members.{In, contains_from, in_left, in_right, in_flat}
use Rattle.netlist_core.specs.declared.flat.NetId.{NetId}
use Rattle.netlist_core.specs.declared.flat.Net.{Net as FlatNet}
use Rattle.netlist_core.specs.declared.flat.FlatPort.{FlatPort}
use Rattle.netlist_core.specs.declared.flat.FlatLatch.{FlatLatch}
use Rattle.netlist_core.specs.declared.flat.Node.{Node}
use Rattle.netlist_core.specs.declared.flat.Flat.{Flat}
use Rattle.netlist_meaning.specs.Flat.{IsNetId, IsInRange}
use Rattle.aiger_text.specs.declared.aig.AigLatch.{AigLatch}
use Rattle.aiger_text.specs.declared.aig.Aig.{Aig}
use Rattle.aiger_text.specs.EntryFaults.{even}
use Rattle.aiger_text.specs.SoundAig.{definitions, sides_of, reads, IsSoundAig}
use Rattle.aiger_meaning.specs.Circuit.{aig_weight}
use Rattle.aiger_meaning.specs.FlatOf.{net_of_literal, net_id, node_of, node_reads, buffer, first_gate, first_buffer, first_output, latch_between, net_names, IsFlatOfAig}
use Rattle.aiger_meaning.proofs.NetLists.{net_at, many_nets, node_is, many_reads, HasNet, has_net}
use Rattle.aiger_meaning.proofs.View.{port_is, latch_is, net_count, node_count, in_count, out_count, latch_count, literal_count, count_is}

in_get : {X : Type 0} (xs : List X) (k : ℕ) (d : X) → k < length xs → In (get_or xs k d) xs
in_get [] k d l = absurd (omega (arith, l))
in_get (x ∷ xs) zero d l = inl refl
in_get (x ∷ xs) (suc k) d l = inr (in_get xs k d (omega (arith, l)))

-- what a node reads, the circuit reads
abbrev AreRead : Aig → List ℕ → Type 0
AreRead aig lits = (lit : ℕ) → In lit lits → In lit (reads aig)

abbrev nexts_of : Aig → List ℕ
nexts_of aig = map (λ (latch : AigLatch). latch.next) aig.latches

gates_read : (aig : Aig) → All (λ gate. AreRead aig (sides_of gate)) aig.ands
gates_read aig k d l lit i = in_right (nexts_of aig ++ aig.outputs) (flat_map sides_of aig.ands) lit (in_flat sides_of aig.ands (get_or aig.ands k d) lit (in_get aig.ands k d l) i)

buffers_read : (aig : Aig) → All (λ lit. AreRead aig (buffer lit)) (nexts_of aig ++ aig.outputs)
buffers_read aig k d l lit (inl e) = in_left (nexts_of aig ++ aig.outputs) (flat_map sides_of aig.ands) lit (subst (λ x. In x (nexts_of aig ++ aig.outputs)) (sym e) (in_get (nexts_of aig ++ aig.outputs) k d l))
buffers_read aig k d l lit (inr none) = absurd none

nodes_read : (aig : Aig) → All (AreRead aig) (node_reads aig)
nodes_read aig =
    All-append (AreRead aig) (map sides_of aig.ands) (map buffer (nexts_of aig ++ aig.outputs))
    (All-map (AreRead aig) sides_of aig.ands (gates_read aig))
    (All-map (AreRead aig) buffer (nexts_of aig ++ aig.outputs) (buffers_read aig))

-- and so it has a net
pub read_has : (aig : Aig) → IsSoundAig aig → (lit : ℕ) → In lit (reads aig) → HasNet aig lit
read_has aig s lit i = has_net aig s lit (All-contains (λ l. 1 < l → Contains (definitions aig) (even l)) (reads aig) lit s.defined (contains_from (reads aig) lit i))

pub node_has : (aig : Aig) → IsSoundAig aig → (k : ℕ) → k < length (node_reads aig) → (lit : ℕ) → In lit (get_or (node_reads aig) k []) → HasNet aig lit
node_has aig s k l lit i = read_has aig s lit (nodes_read aig k [] l lit i)

abbrev pub no_latch : AigLatch
no_latch = record { lit = 0; next = 0; reset = 0 }

module _ (aig : Aig) (flat : Flat) (s : IsSoundAig aig) (small : aig_weight aig < 2 ^ 31) (h : IsFlatOfAig aig flat) where
  pub few_nodes : length flat.nodes < 2 ^ 32
  few_nodes = omega (arith, small, node_count aig flat s h, many_reads aig)

  pub has_id : (lit : ℕ) → HasNet aig lit → IsNetId flat (net_id (net_of_literal aig lit))
  has_id lit has = omega (arith, has.within, literal_count aig flat s h, count_is aig flat s h, net_count aig flat s h)

  net_is_class : All (λ (net : FlatNet). net.class < length flat.nets) flat.nets
  net_is_class k d l =
      let low : k < length (net_names aig) = omega (arith, l, ap length h.nets, many_nets 0 (net_names aig)) in
      let is : get_or flat.nets k d ≡ record { place = []; name = get_or (net_names aig) k []; class = 0 + k } = ap (λ (nets : List FlatNet). get_or nets k d) h.nets ∙ net_at 0 (net_names aig) k d low in
      subst (λ (net : FlatNet). net.class < length flat.nets) (sym is) (let e : 0 + k < length flat.nets = omega (arith, l) in e)

  in_is_id : All (λ (port : FlatPort). IsNetId flat port.net) flat.ins
  in_is_id k d l =
      let low : k < length aig.inputs = omega (arith, l, in_count aig flat s h) in
      subst (λ (port : FlatPort). IsNetId flat port.net) (sym (ap (λ (ports : List FlatPort). get_or ports k d) h.ins ∙ port_is 1 (length aig.inputs) k d low))
      (let e : 1 + k < length flat.nets = omega (arith, low, net_count aig flat s h) in e)

  out_is_id : All (λ (port : FlatPort). IsNetId flat port.net) flat.outs
  out_is_id k d l =
      let low : k < length aig.outputs = omega (arith, l, out_count aig flat s h) in
      subst (λ (port : FlatPort). IsNetId flat port.net) (sym (ap (λ (ports : List FlatPort). get_or ports k d) h.outs ∙ port_is (first_output aig) (length aig.outputs) k d low))
      (let e : first_output aig + k < length flat.nets = omega (arith, low, count_is aig flat s h, net_count aig flat s h) in e)

  clock_is_id : All (λ (port : FlatPort). IsNetId flat port.net) flat.clocks
  clock_is_id k d l = absurd (let none : length flat.clocks ≡ 0 = ap length h.clocks in omega (arith, l, none))

  pub latch_at : (k : ℕ) (d : FlatLatch) → k < length flat.latches → get_or flat.latches k d ≡ latch_between (first_buffer aig + k) (1 + length aig.inputs + k) (get_or aig.latches k no_latch)
  latch_at k d l =
      ap (λ (ls : List FlatLatch). get_or ls k d) h.latches ∙ latch_is (first_buffer aig) (1 + length aig.inputs) aig.latches k d no_latch (omega (arith, l, latch_count aig flat s h))

  latch_is_id : All (λ (latch : FlatLatch). IsNetId flat latch.input × IsNetId flat latch.output) flat.latches
  latch_is_id k d l =
      let low : k < length aig.latches = omega (arith, l, latch_count aig flat s h) in
      subst (λ (latch : FlatLatch). IsNetId flat latch.input × IsNetId flat latch.output) (sym (latch_at k d l)) (
        (let e : first_buffer aig + k < length flat.nets = omega (arith, low, count_is aig flat s h, net_count aig flat s h) in e),
        (let e : 1 + length aig.inputs + k < length flat.nets = omega (arith, low, net_count aig flat s h) in e),
      )

  no_controls : All (λ (latch : FlatLatch). MatchOption latch.control ⊤ (IsNetId flat)) flat.latches
  no_controls k d l = subst (λ (latch : FlatLatch). MatchOption latch.control ⊤ (IsNetId flat)) (sym (latch_at k d l)) tt

  pub node_number : (k : ℕ) (d : Node) → suc k < length flat.nodes → get_or flat.nodes (suc k) d ≡ node_of aig (get_or (node_reads aig) k []) (first_gate aig + k)
  node_number k d l = ap (λ (nodes : List Node). get_or nodes (suc k) d) h.nodes ∙ node_is aig (first_gate aig) (node_reads aig) k d (omega (arith, l, node_count aig flat s h))

  node_in_ids : All (λ (node : Node). All (IsNetId flat) node.ins) flat.nodes
  node_in_ids zero d l = subst (λ (node : Node). All (IsNetId flat) node.ins) (sym (ap (λ (nodes : List Node). get_or nodes 0 d) h.nodes)) (λ j e low. absurd (omega (arith, low)))
  node_in_ids (suc k) d l =
      let low : k < length (node_reads aig) = omega (arith, l, node_count aig flat s h) in
      let lits = get_or (node_reads aig) k [] in
      subst (λ (node : Node). All (IsNetId flat) node.ins) (sym (node_number k d l))
      (All-map (IsNetId flat) (λ lit. net_id (net_of_literal aig lit)) lits (λ j e at. has_id (get_or lits j e) (node_has aig s k low (get_or lits j e) (in_get lits j e at))))

  node_out_ids : All (λ (node : Node). IsNetId flat node.out) flat.nodes
  node_out_ids zero d l = subst (λ (node : Node). IsNetId flat node.out) (sym (ap (λ (nodes : List Node). get_or nodes 0 d) h.nodes)) (let e : 0 < length flat.nets = omega (arith, net_count aig flat s h) in e)
  node_out_ids (suc k) d l =
      subst (λ (node : Node). IsNetId flat node.out) (sym (node_number k d l)) (let e : first_gate aig + k < length flat.nets = omega (arith, l, node_count aig flat s h, net_count aig flat s h) in e)

  pub in_range : IsInRange flat
  in_range = record {
    few = few_nodes;
    classes = net_is_class;
    ins = in_is_id;
    outs = out_is_id;
    clocks = clock_is_id;
    latches = latch_is_id;
    controls = no_controls;
    control = subst (λ (c : Option NetId). MatchOption c ⊤ (IsNetId flat)) (sym h.control) tt;
    node_ins = node_in_ids;
    node_outs = node_out_ids;
  }
