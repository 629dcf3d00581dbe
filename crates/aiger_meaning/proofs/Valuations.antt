-- Solutions of a circuit's equations, and of those of its flat netlist.
use Rattle.std.proofs.Common.{ℕ, zero, suc, ◌+◌, ◌*◌, ◌/◌, ◌%◌, ◌-◌, ◌<◌, ◌≤◌, ◌^◌, ◌≡◌, ⊎_elim, refl, sym, ap, ◌∙◌, Bool, true, false, cond, not, ◌&&◌, ◌==◌, List, [], ◌++◌, map, length, get_or, length-append, arith}
use Rattle.std.specs.Prelude.{All}
use Rattle.std.specs.List.{list_all, position_or_len}
use Rattle.std.proofs.lemmas.Bool.{cases_lt, eqb-true, eqb-false}
use Rattle.std.proofs.lemmas.List.{get_or-append-add, get_or_append_left, get_or-map, length-map}
use Rattle.netlist_core.specs.declared.flat.NetId.{NetId}
use Rattle.netlist_core.specs.declared.flat.Node.{Node}
use Rattle.netlist_core.specs.declared.flat.Flat.{Flat}
use Rattle.netlist_meaning.specs.CoverValue.{fits, cover_value}
use Rattle.netlist_meaning.specs.Flat.{class_of, out_class}
use Rattle.netlist_meaning.specs.FlatValuation.{node_value, IsFlatValuation}
use Rattle.aiger_text.specs.declared.aig.AigLatch.{AigLatch}
use Rattle.aiger_text.specs.declared.aig.AigAnd.{AigAnd}
use Rattle.aiger_text.specs.declared.aig.Aig.{Aig}
use Rattle.aiger_text.specs.EntryFaults.{even}
use Rattle.aiger_text.specs.SoundAig.{sides_of, IsSoundAig}
use Rattle.aiger_meaning.specs.Circuit.{aig_weight, IsAigValuation}
use Rattle.aiger_meaning.specs.FlatOf.{own_literals, net_of_literal, node_reads, row_character, buffer, first_gate, first_buffer, IsFlatOfAig}
use Rattle.aiger_meaning.specs.Lowered.{AreSameCycle}
use Rattle.aiger_meaning.proofs.NetLists.{net_is, even_is, literal_even, many_reads}
use Rattle.aiger_meaning.proofs.View.{zero_is, node_count, literal_count, nodes_many, out_class_zero, out_class_is}
use Rattle.aiger_meaning.proofs.Values.{Agrees, FitsAll, nexts_of, net_literal, defined_literal, gate_literal, buffer_literal, value_is, ins_are, latches_are, same_cycle, fits_one, fits_zero}

pub no_gate : AigAnd
no_gate = record { lhs = 0; rhs0 = 0; rhs1 = 0 }

and_true : (b : Bool) → (b && true) ≡ b
and_true true = refl
and_true false = refl

-- what nodes read
pub gate_reads : (aig : Aig) (k : ℕ) (d : AigAnd) → k < length aig.ands → get_or (node_reads aig) k [] ≡ sides_of (get_or aig.ands k d)
gate_reads aig k d l =
    get_or_append_left (map sides_of aig.ands) (map buffer (nexts_of aig ++ aig.outputs)) [] k (omega (arith, l, length-map aig.ands sides_of)) ∙ get_or-map sides_of aig.ands k d [] l

wire_reads : (aig : Aig) (j : ℕ) → j < length (nexts_of aig ++ aig.outputs) → get_or (node_reads aig) (length aig.ands + j) [] ≡ buffer (get_or (nexts_of aig ++ aig.outputs) j 0)
wire_reads aig j l =
    ap (λ n. get_or (node_reads aig) (n + j) []) (sym (length-map aig.ands sides_of))
    ∙ get_or-append-add (map sides_of aig.ands) (map buffer (nexts_of aig ++ aig.outputs)) j []
    ∙ get_or-map buffer (nexts_of aig ++ aig.outputs) j 0 [] l

many_wires : (aig : Aig) → length (nexts_of aig ++ aig.outputs) ≡ length aig.latches + length aig.outputs
many_wires aig = length-append (nexts_of aig) aig.outputs ∙ ap (λ n. n + length aig.outputs) (length-map aig.latches (λ (latch : AigLatch). latch.next))

module _ (aig : Aig) (flat : Flat) (s : IsSoundAig aig) (small : aig_weight aig < 2 ^ 31) (h : IsFlatOfAig aig flat) where
  zero_value : (f : ℕ → Bool) → node_value flat f 0 ≡ false
  zero_value f = ap (λ (node : Node). cover_value node.rows node.on (map (λ (id : NetId). f (class_of flat id)) node.ins)) (zero_is aig flat s h)

  -- the literal of a gate's net
  side_literal : (k : ℕ) (d : AigAnd) → k < length aig.ands → net_literal aig (first_gate aig + k) ≡ (get_or aig.ands k d).lhs
  side_literal k d l =
      defined_literal aig (first_gate aig + k) (omega (arith, l, literal_count aig flat s h))
      ∙ gate_literal aig k
      ∙ get_or-map (λ (gate : AigAnd). gate.lhs) aig.ands k d 0 l

  module _ (bits : ℕ → Bool) (inputs state : List Bool) (v : IsAigValuation aig inputs state bits) where
    abbrev on_nets : ℕ → Bool
    on_nets k = bits (net_literal aig k)

    signed : (lit : ℕ) → fits (row_character lit) (bits (even lit)) ≡ bits lit
    signed lit = by (lit % 2 == 0) refl
      where
        by : (b : Bool) → (lit % 2 == 0) ≡ b → fits (cond b 49 48) (bits (even lit)) ≡ bits lit
        by true e = fits_one (bits (even lit)) ∙ ap bits (even_is lit (eqb-true (lit % 2) 0 e))
        by false e =
            let odd = eqb-false (lit % 2) 0 e in
            fits_zero (bits (even lit)) ∙ sym (v.inverted (lit / 2)) ∙ ap bits (let is : 2 * (lit / 2) + 1 ≡ lit = omega (arith, odd) in is)

    on_nets_agree : Agrees aig flat s small h on_nets bits
    on_nets_agree = record {
      fits_is = λ lit has. ap (λ l. fits (row_character lit) (bits l)) (defined_literal aig (net_of_literal aig lit) has.within ∙ has.is) ∙ signed lit;
      nets_are = λ k l. refl;
    }

    holds : (k : ℕ) → k < nodes_many aig flat s h → on_nets (first_gate aig + k) ≡ list_all bits (get_or (node_reads aig) k [])
    holds k l = ⊎_elim in_gates in_wires (cases_lt k (length aig.ands))
      where
        in_gates : k < length aig.ands → on_nets (first_gate aig + k) ≡ list_all bits (get_or (node_reads aig) k [])
        in_gates low =
            let gate = get_or aig.ands k no_gate in
            ap bits (side_literal k no_gate low)
            ∙ v.gates_hold k no_gate low
            ∙ ap (λ b. bits gate.rhs0 && b) (sym (and_true (bits gate.rhs1)))
            ∙ ap (list_all bits) (sym (gate_reads aig k no_gate low))

        in_wires : length aig.ands ≤ k → on_nets (first_gate aig + k) ≡ list_all bits (get_or (node_reads aig) k [])
        in_wires past =
            let j = k - length aig.ands in
            let at : first_gate aig + k ≡ first_buffer aig + j = omega (arith, past) in
            let is : length aig.ands + j ≡ k = omega (arith, past) in
            ap on_nets at
            ∙ ap bits (buffer_literal aig flat s small h j)
            ∙ sym (and_true (bits (get_or (nexts_of aig ++ aig.outputs) j 0)))
            ∙ ap (list_all bits) (sym (wire_reads aig j (omega (arith, l, past, many_reads aig, many_wires aig))) ∙ ap (λ n. get_or (node_reads aig) n []) is)

    nodes_hold : (n : ℕ) → n < length flat.nodes → on_nets (out_class flat n) ≡ node_value flat on_nets n
    nodes_hold zero l = ap on_nets (out_class_zero aig flat s h) ∙ v.constant ∙ sym (zero_value on_nets)
    nodes_hold (suc k) l =
        let low : k < nodes_many aig flat s h = omega (arith, l, node_count aig flat s h) in
        ap on_nets (out_class_is aig flat s h k low) ∙ holds k low ∙ sym (value_is aig flat s small h on_nets bits on_nets_agree.fits_is k low)

    pub is_flat : (class_bits : ℕ → Bool) × IsFlatValuation flat inputs state class_bits × AreSameCycle aig flat bits class_bits
    is_flat = (
      on_nets,
      record {
        inputs_given = ins_are aig flat s small h on_nets bits on_nets_agree ∙ v.inputs_given;
        latches_hold = latches_are aig flat s small h on_nets bits on_nets_agree ∙ v.latches_hold;
        nodes_hold = nodes_hold;
      },
      same_cycle aig flat s small h on_nets bits on_nets_agree,
    )

  module _ (f : ℕ → Bool) (inputs state : List Bool) (v : IsFlatValuation flat inputs state f) where
    abbrev on_literals : ℕ → Bool
    on_literals lit = cond (lit % 2 == 0) (f (net_of_literal aig lit)) (not (f (net_of_literal aig lit)))

    fit : FitsAll aig flat s small h f on_literals
    fit lit has = by (lit % 2 == 0) (f (net_of_literal aig lit))
      where
        by : (b x : Bool) → fits (cond b 49 48) x ≡ cond b x (not x)
        by true x = fits_one x
        by false x = fits_zero x

    even_bits : (lit : ℕ) → lit % 2 ≡ 0 → on_literals lit ≡ f (net_of_literal aig lit)
    even_bits lit e = ap (λ n. cond (n == 0) (f (net_of_literal aig lit)) (not (f (net_of_literal aig lit)))) e

    odd_bits : (lit : ℕ) → lit % 2 ≡ 1 → on_literals lit ≡ not (f (net_of_literal aig lit))
    odd_bits lit e = ap (λ n. cond (n == 0) (f (net_of_literal aig lit)) (not (f (net_of_literal aig lit)))) e

    -- what nodes give
    given : (k : ℕ) → k < nodes_many aig flat s h → f (first_gate aig + k) ≡ list_all on_literals (get_or (node_reads aig) k [])
    given k l =
        ap f (sym (out_class_is aig flat s h k l))
        ∙ v.nodes_hold (suc k) (omega (arith, l, node_count aig flat s h))
        ∙ value_is aig flat s small h f on_literals fit k l

    nets_agree : (k : ℕ) → k < first_gate aig + nodes_many aig flat s h → f k ≡ on_literals (net_literal aig k)
    nets_agree k l = ⊎_elim in_own in_wires (cases_lt k (length (own_literals aig)))
      where
        in_own : k < length (own_literals aig) → f k ≡ on_literals (net_literal aig k)
        in_own low =
            let lit = get_or (own_literals aig) k 0 in
            let own = literal_even aig s k low in
            let net : net_of_literal aig lit ≡ k = net_is aig s k lit low own in
            let two : lit % 2 ≡ 0 = omega (arith, own) in
            ap f (sym net) ∙ sym (even_bits lit two) ∙ ap on_literals (sym (defined_literal aig k low))

        in_wires : length (own_literals aig) ≤ k → f k ≡ on_literals (net_literal aig k)
        in_wires past =
            let j = k - first_buffer aig in
            let k_is : first_buffer aig + j ≡ k = omega (arith, past, literal_count aig flat s h) in
            let at : k ≡ first_gate aig + (length aig.ands + j) = omega (arith, past, literal_count aig flat s h) in
            let lit = get_or (nexts_of aig ++ aig.outputs) j 0 in
            ap f at
            ∙ given (length aig.ands + j) (omega (arith, past, l, literal_count aig flat s h))
            ∙ ap (list_all on_literals) (wire_reads aig j (omega (arith, past, l, literal_count aig flat s h, many_reads aig, many_wires aig)))
            ∙ and_true (on_literals lit)
            ∙ ap on_literals (sym (buffer_literal aig flat s small h j) ∙ ap (net_literal aig) k_is)

    on_literals_agree : Agrees aig flat s small h f on_literals
    on_literals_agree = record { fits_is = fit; nets_are = nets_agree }

    constant : on_literals 0 ≡ false
    constant =
        ap f (net_is aig s 0 0 (omega arith) refl)
        ∙ ap f (sym (out_class_zero aig flat s h))
        ∙ v.nodes_hold 0 (omega (arith, node_count aig flat s h))
        ∙ zero_value f

    inverted : (variable : ℕ) → on_literals (2 * variable + 1) ≡ not (on_literals (2 * variable))
    inverted variable =
        odd_bits (2 * variable + 1) (omega arith)
        ∙ ap (λ e. not (f (position_or_len (λ own. own == e) (own_literals aig)))) (let e : even (2 * variable + 1) ≡ even (2 * variable) = omega arith in e)
        ∙ ap not (sym (even_bits (2 * variable) (omega arith)))

    gates : All (λ (gate : AigAnd). on_literals gate.lhs ≡ (on_literals gate.rhs0 && on_literals gate.rhs1)) aig.ands
    gates k d l =
        let gate = get_or aig.ands k d in
        ap on_literals (sym (side_literal k d l))
        ∙ sym (nets_agree (first_gate aig + k) (omega (arith, l, many_reads aig)))
        ∙ given k (omega (arith, l, many_reads aig))
        ∙ ap (list_all on_literals) (gate_reads aig k d l)
        ∙ ap (λ b. on_literals gate.rhs0 && b) (and_true (on_literals gate.rhs1))

    pub of_flat : (bits : ℕ → Bool) × IsAigValuation aig inputs state bits × AreSameCycle aig flat bits f
    of_flat = (
      on_literals,
      record {
        constant = constant;
        inverted = inverted;
        inputs_given = sym (ins_are aig flat s small h f on_literals on_literals_agree) ∙ v.inputs_given;
        latches_hold = sym (latches_are aig flat s small h f on_literals on_literals_agree) ∙ v.latches_hold;
        gates_hold = gates;
      },
      same_cycle aig flat s small h f on_literals on_literals_agree,
    )
