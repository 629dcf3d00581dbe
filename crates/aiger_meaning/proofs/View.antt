-- The flat netlist of a sound circuit, by its numbers.
use Rattle.std.proofs.Common.{ℕ, zero, suc, ◌+◌, ◌<◌, ◌≡◌, refl, sym, ap, ap₂, ◌∙◌, List, [], ◌∷◌, length, get_or, arith}
use Rattle.std.specs.List.{range_with_len}
use Rattle.std.proofs.lemmas.List.{length-map, get_or-map}
use Rattle.std.proofs.lemmas.List.FromFn.{length-range_with_len, get_or-range_with_len}
use Rattle.std.proofs.lemmas.Option.{slice_get_within, get_or_from_slice_get}
use Rattle.netlist_core.specs.declared.flat.Net.{Net as FlatNet}
use Rattle.netlist_core.specs.declared.flat.FlatPort.{FlatPort}
use Rattle.netlist_core.specs.declared.flat.FlatLatch.{FlatLatch}
use Rattle.netlist_core.specs.declared.flat.Node.{Node}
use Rattle.netlist_core.specs.declared.flat.Flat.{Flat}
use Rattle.netlist_meaning.specs.Flat.{no_net, no_node, class_of, node_at, out_class, FlatDriver, FlatDrives}
use Rattle.aiger_text.specs.declared.aig.AigLatch.{AigLatch}
use Rattle.aiger_text.specs.declared.aig.Aig.{Aig}
use Rattle.aiger_text.specs.SoundAig.{IsSoundAig}
use Rattle.aiger_meaning.specs.FlatOf.{own_literals, net_id, node_of, node_reads, zero_node, first_gate, first_buffer, first_output, latch_between, latches_from, port_at, ports_from, net_names, IsFlatOfAig}
use Rattle.aiger_meaning.proofs.NetLists.{net_at, many_nets, node_is, many_nodes, many_definitions, many_reads, many_names}

-- ports and latches by their numbers
pub port_is : (net count k : ℕ) (d : FlatPort) → k < count → get_or (ports_from net count) k d ≡ port_at (net + k)
port_is net count k d l =
    get_or-map port_at (range_with_len net count) k 0 d (omega (arith, l, length-range_with_len net count)) ∙ ap port_at (get_or-range_with_len net count k 0 l)

pub many_ports : (net count : ℕ) → length (ports_from net count) ≡ count
many_ports net count = length-map (range_with_len net count) port_at ∙ length-range_with_len net count

pub latch_is : (input output : ℕ) (latches : List AigLatch) (k : ℕ) (d : FlatLatch) (e : AigLatch) → k < length latches → get_or (latches_from input output latches) k d ≡ latch_between (input + k) (output + k) (get_or latches k e)
latch_is input output [] k d e l = absurd (omega (arith, l))
latch_is input output (latch ∷ latches) zero d e l = ap₂ (λ i o. latch_between i o latch) (let h : input ≡ input + 0 = omega arith in h) (let h : output ≡ output + 0 = omega arith in h)
latch_is input output (latch ∷ latches) (suc k) d e l =
    latch_is (suc input) (suc output) latches k d e (omega (arith, l))
    ∙ ap₂ (λ i o. latch_between i o (get_or latches k e)) (let h : suc input + k ≡ input + suc k = omega arith in h) (let h : suc output + k ≡ output + suc k = omega arith in h)

pub many_latches : (input output : ℕ) (latches : List AigLatch) → length (latches_from input output latches) ≡ length latches
many_latches input output [] = refl
many_latches input output (latch ∷ latches) = ap suc (many_latches (suc input) (suc output) latches)

module _ (aig : Aig) (flat : Flat) (s : IsSoundAig aig) (h : IsFlatOfAig aig flat) where
  abbrev pub nodes_many : ℕ
  nodes_many = length (node_reads aig)

  pub net_count : length flat.nets ≡ first_gate aig + nodes_many
  net_count = ap length h.nets ∙ many_nets 0 (net_names aig) ∙ many_names aig s

  pub node_count : length flat.nodes ≡ suc nodes_many
  node_count = ap length h.nodes ∙ ap suc (many_nodes aig (first_gate aig) (node_reads aig))

  pub in_count : length flat.ins ≡ length aig.inputs
  in_count = ap length h.ins ∙ many_ports 1 (length aig.inputs)

  pub out_count : length flat.outs ≡ length aig.outputs
  out_count = ap length h.outs ∙ many_ports (first_output aig) (length aig.outputs)

  pub latch_count : length flat.latches ≡ length aig.latches
  latch_count = ap length h.latches ∙ many_latches (first_buffer aig) (1 + length aig.inputs) aig.latches

  pub literal_count : length (own_literals aig) ≡ first_buffer aig
  literal_count = let e = many_definitions aig in omega (arith, e)

  pub count_is : first_gate aig + nodes_many ≡ first_buffer aig + (length aig.latches + length aig.outputs)
  count_is = let e = many_reads aig in omega (arith, e)

  -- each net is a class of its own
  pub class_is : (k : ℕ) → k < first_gate aig + nodes_many → class_of flat (net_id k) ≡ k
  class_is k l =
      ap (λ (nets : List FlatNet). (get_or nets k no_net).class) h.nets
      ∙ ap (λ (net : FlatNet). net.class) (net_at 0 (net_names aig) k no_net (omega (arith, l, many_names aig s)))
      ∙ (let e : 0 + k ≡ k = omega arith in e)

  -- the nodes
  pub zero_is : node_at flat 0 ≡ zero_node
  zero_is = ap (λ (nodes : List Node). get_or nodes 0 no_node) h.nodes

  pub node_at_is : (k : ℕ) → k < nodes_many → node_at flat (suc k) ≡ node_of aig (get_or (node_reads aig) k []) (first_gate aig + k)
  node_at_is k l = ap (λ (nodes : List Node). get_or nodes (suc k) no_node) h.nodes ∙ node_is aig (first_gate aig) (node_reads aig) k no_node l

  -- what drives a class
  pub in_drives : (i class : ℕ) → FlatDrives flat (FlatDriver.input i) class → (i < length aig.inputs) × (class ≡ 1 + i)
  in_drives i class (port, at, is) =
      let low : i < length flat.ins = slice_get_within flat.ins i port at in
      let few : i < length aig.inputs = omega (arith, low, in_count) in
      let same : port ≡ port_at (1 + i) = sym (get_or_from_slice_get flat.ins i port port at) ∙ ap (λ (ports : List FlatPort). get_or ports i port) h.ins ∙ port_is 1 (length aig.inputs) i port few in
      (few, sym is ∙ ap (λ (p : FlatPort). class_of flat p.net) same ∙ class_is (1 + i) (omega (arith, few)))

  pub latch_drives : (i class : ℕ) → FlatDrives flat (FlatDriver.latch i) class → (i < length aig.latches) × (class ≡ 1 + length aig.inputs + i)
  latch_drives i class (latch, at, is) =
      let low : i < length flat.latches = slice_get_within flat.latches i latch at in
      let few : i < length aig.latches = omega (arith, low, latch_count) in
      let d : AigLatch = record { lit = 0; next = 0; reset = 0 } in
      let same : latch ≡ latch_between (first_buffer aig + i) (1 + length aig.inputs + i) (get_or aig.latches i d) =
      sym (get_or_from_slice_get flat.latches i latch latch at) ∙ ap (λ (ls : List FlatLatch). get_or ls i latch) h.latches ∙ latch_is (first_buffer aig) (1 + length aig.inputs) aig.latches i latch d few in
      (few, sym is ∙ ap (λ (l : FlatLatch). class_of flat l.output) same ∙ class_is (1 + length aig.inputs + i) (omega (arith, few)))

  pub out_class_zero : out_class flat 0 ≡ 0
  out_class_zero = ap (λ (n : Node). class_of flat n.out) zero_is ∙ class_is 0 (omega arith)

  pub out_class_is : (k : ℕ) → k < nodes_many → out_class flat (suc k) ≡ first_gate aig + k
  out_class_is k l = ap (λ (n : Node). class_of flat n.out) (node_at_is k l) ∙ class_is (first_gate aig + k) (omega (arith, l))

  -- the number of the class that a driver drives
  abbrev pub DrivesAt : FlatDriver → ℕ → Type 0
  DrivesAt (FlatDriver.input i) class = (i < length aig.inputs) × (class ≡ 1 + i)
  DrivesAt (FlatDriver.latch i) class = (i < length aig.latches) × (class ≡ 1 + length aig.inputs + i)
  DrivesAt (FlatDriver.node zero) class = class ≡ 0
  DrivesAt (FlatDriver.node (suc k)) class = (k < nodes_many) × (class ≡ first_gate aig + k)

  pub drives_at : (class : ℕ) (d : FlatDriver) → FlatDrives flat d class → DrivesAt d class
  drives_at class (FlatDriver.input i) f = in_drives i class f
  drives_at class (FlatDriver.latch i) f = latch_drives i class f
  drives_at class (FlatDriver.node zero) f = sym f.1 ∙ out_class_zero
  drives_at class (FlatDriver.node (suc k)) f =
      let low : k < nodes_many = (let l : suc k < length flat.nodes = f.0 in omega (arith, l, node_count)) in
      (low, sym f.1 ∙ out_class_is k low)
