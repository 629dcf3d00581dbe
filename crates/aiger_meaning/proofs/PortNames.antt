-- The names of ports, and the start.
use Rattle.std.proofs.Common.{ℕ, suc, ◌+◌, ◌<◌, ◌≤◌, ◌-◌, ◌≡◌, ◌≢◌, refl, sym, ap, ap₂, ◌∙◌, subst, Bool, true, false, cond, ◌==◌, List, [], ◌∷◌, ◌++◌, map, length, get_or, length-append, arith}
use Rattle.std.specs.Prelude.{All, AllPairs, replicate}
use Rattle.std.proofs.lemmas.List.{get_or-append-add, get_or_append_left, get_or_default, get_or-map, length-map, length-replicate, length-take-le, length-drop, same_lists}
use Rattle.netlist_core.specs.declared.flat.Net.{Net as FlatNet}
use Rattle.netlist_core.specs.declared.flat.FlatPort.{FlatPort}
use Rattle.netlist_core.specs.declared.flat.FlatLatch.{FlatLatch}
use Rattle.netlist_core.specs.declared.flat.Flat.{Flat}
use Rattle.netlist_core.specs.Names.{Name}
use Rattle.netlist_meaning.specs.Flat.{no_net, name_of_net, names_of_ports, IsNamed}
use Rattle.netlist_meaning.specs.FlatValuation.{start_bits}
use Rattle.aiger_text.specs.declared.aig.AigLatch.{AigLatch}
use Rattle.aiger_text.specs.declared.aig.Aig.{Aig}
use Rattle.aiger_text.specs.SoundAig.{input_names, output_names, IsSoundAig}
use Rattle.aiger_meaning.specs.Circuit.{aig_start_bits}
use Rattle.aiger_meaning.specs.FlatOf.{first_output, latches_from, port_at, ports_from, net_names, IsFlatOfAig}
use Rattle.aiger_meaning.proofs.NetLists.{net_at}
use Rattle.aiger_meaning.proofs.View.{port_is, many_ports}

module _ (aig : Aig) (flat : Flat) (s : IsSoundAig aig) (h : IsFlatOfAig aig flat) where
  net_here : (n : ℕ) → n < length (net_names aig) → get_or flat.nets n no_net ≡ record { place = []; name = get_or (net_names aig) n []; class = 0 + n }
  net_here n l = ap (λ (nets : List FlatNet). get_or nets n no_net) h.nets ∙ net_at 0 (net_names aig) n no_net l

  abbrev inner : List Name
  inner = replicate (length aig.latches + length aig.ands + length aig.latches) []

  many_in : length (input_names aig) ≡ length aig.inputs
  many_in = length-take-le (length aig.inputs) aig.names (omega (arith, s.all_named))

  many_out : length (output_names aig) ≡ length aig.outputs
  many_out = let e : length (output_names aig) ≡ length aig.names - length aig.inputs = length-drop (length aig.inputs) aig.names in omega (arith, e, s.all_named)

  many_inner : length inner ≡ length aig.latches + length aig.ands + length aig.latches
  many_inner = length-replicate (length aig.latches + length aig.ands + length aig.latches) []

  many_all : length (net_names aig) ≡ 1 + (length (input_names aig) + (length inner + length (output_names aig)))
  many_all =
      let e : length (input_names aig ++ (inner ++ output_names aig)) ≡ length (input_names aig) + (length inner + length (output_names aig)) =
      length-append (input_names aig) (inner ++ output_names aig) ∙ ap (λ n. length (input_names aig) + n) (length-append inner (output_names aig)) in
      omega (arith, e)

  -- the names of ports from a net on
  in_name : (k : ℕ) → k < length aig.inputs → get_or (net_names aig) (1 + k) [] ≡ get_or (input_names aig) k []
  in_name k l = ap (λ n. get_or (net_names aig) n []) (let e : 1 + k ≡ suc k = omega arith in e) ∙ get_or_append_left (input_names aig) (inner ++ output_names aig) [] k (omega (arith, l, many_in))

  out_name : (k : ℕ) → get_or (net_names aig) (first_output aig + k) [] ≡ get_or (output_names aig) k []
  out_name k =
      ap (λ n. get_or (net_names aig) n []) (let e : first_output aig + k ≡ suc (length (input_names aig) + (length inner + k)) = omega (arith, many_in, many_inner) in e)
      ∙ get_or-append-add (input_names aig) (inner ++ output_names aig) (length inner + k) []
      ∙ get_or-append-add inner (output_names aig) k []

  names_from : (ports : List FlatPort) (net count : ℕ) (names : List Name) → ports ≡ ports_from net count → length names ≡ count → net + count ≤ length (net_names aig)
      → ((k : ℕ) → k < count → get_or (net_names aig) (net + k) [] ≡ get_or names k []) → names_of_ports flat ports ≡ names
  names_from ports net count names is many within named =
      let long : length (names_of_ports flat ports) ≡ count = length-map ports (λ (port : FlatPort). name_of_net flat port.net) ∙ ap length is ∙ many_ports net count in
      same_lists (names_of_ports flat ports) names (long ∙ sym many) (λ k d l.
      let low : k < count = omega (arith, l, long) in
      get_or-map (λ (port : FlatPort). name_of_net flat port.net) ports k (port_at 0) d (omega (arith, low, ap length is, many_ports net count))
      ∙ ap (λ (port : FlatPort). name_of_net flat port.net) (ap (λ (ps : List FlatPort). get_or ps k (port_at 0)) is ∙ port_is net count k (port_at 0) low)
      ∙ ap (λ (net : FlatNet). net.name) (net_here (net + k) (omega (arith, low, within)))
      ∙ named k low
      ∙ get_or_default names k [] d (omega (arith, low, many)))

  pub in_names_are : names_of_ports flat flat.ins ≡ input_names aig
  in_names_are = names_from flat.ins 1 (length aig.inputs) (input_names aig) h.ins many_in (omega (arith, many_all, many_in)) in_name

  pub out_names_are : names_of_ports flat flat.outs ≡ output_names aig
  out_names_are = names_from flat.outs (first_output aig) (length aig.outputs) (output_names aig) h.outs many_out (omega (arith, many_all, many_in, many_inner, many_out)) (λ k l. out_name k)

  main_ports : (ports : List FlatPort) (net count : ℕ) → ports ≡ ports_from net count → net + count ≤ length (net_names aig) → All (λ (port : FlatPort). (get_or flat.nets port.net.0 no_net).place ≡ []) ports
  main_ports ports net count is within k d l =
      let low : k < count = omega (arith, l, ap length is, many_ports net count) in
      ap (λ (port : FlatPort). (get_or flat.nets port.net.0 no_net).place) (ap (λ (ps : List FlatPort). get_or ps k d) is ∙ port_is net count k d low)
      ∙ ap (λ (net : FlatNet). net.place) (net_here (net + k) (omega (arith, low, within)))

  pub named : IsNamed flat
  named = record {
    ins = record { main = main_ports flat.ins 1 (length aig.inputs) h.ins (omega (arith, many_all, many_in)); distinct = subst (AllPairs (λ a b. a ≢ b)) (sym in_names_are) s.apart_in };
    outs = record { main = main_ports flat.outs (first_output aig) (length aig.outputs) h.outs (omega (arith, many_all, many_in, many_inner, many_out)); distinct = subst (AllPairs (λ a b. a ≢ b)) (sym out_names_are) s.apart_out };
  }

  pub starts : start_bits flat ≡ aig_start_bits aig
  starts = ap (map (λ (latch : FlatLatch). latch.init == 1)) h.latches ∙ from _ _ aig.latches
    where
      one : (b : Bool) → ((cond b 1 0) == 1) ≡ b
      one true = refl
      one false = refl

      from : (input output : ℕ) (latches : List AigLatch) → map (λ (latch : FlatLatch). latch.init == 1) (latches_from input output latches) ≡ map (λ (latch : AigLatch). latch.reset == 1) latches
      from input output [] = refl
      from input output (latch ∷ latches) = ap₂ (λ (b : Bool) bs. b ∷ bs) (one (latch.reset == 1)) (from (suc input) (suc output) latches)
