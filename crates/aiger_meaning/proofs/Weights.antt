-- The flat netlist of a circuit is within its weight.
use Rattle.std.proofs.Common.{ℕ, suc, ◌+◌, ◌*◌, ◌<◌, ◌^◌, ◌≡◌, refl, sym, ap, ap₂, ◌∙◌, Bool, true, false, cond, ◌==◌, ◌||◌, List, [], ◌∷◌, ◌++◌, map, length, length-append, arith}
use Rattle.std.specs.Prelude.{sum_by, ◌%◌}
use Rattle.std.proofs.lemmas.List.{length-map}
use Rattle.std.proofs.lemmas.List.Sums.{sum_by-append, sum_by-cons}
use Rattle.netlist_core.specs.declared.flat.Node.{Node}
use Rattle.netlist_core.specs.declared.flat.Flat.{Flat}
use Rattle.netlist_core.specs.OwnWeight.{rows_weight, literals as row_literals}
use Rattle.netlist_meaning.specs.Flat.{IsWeighed}
use Rattle.aiger_text.specs.declared.aig.AigLatch.{AigLatch}
use Rattle.aiger_text.specs.declared.aig.AigAnd.{AigAnd}
use Rattle.aiger_text.specs.declared.aig.Aig.{Aig}
use Rattle.aiger_text.specs.SoundAig.{sides_of, IsSoundAig}
use Rattle.aiger_meaning.specs.Circuit.{aig_weight}
use Rattle.aiger_meaning.specs.FlatOf.{node_reads, nodes_from, node_of, row_character, buffer, first_gate, zero_node, IsFlatOfAig}
use Rattle.aiger_meaning.proofs.NetLists.{many_reads}
use Rattle.aiger_meaning.proofs.View.{net_count, in_count, out_count, latch_count}

-- a row has as many characters `0` and `1` as there are literals
abbrev wanted : ℕ → ℕ
wanted character = cond ((character == 48) || (character == 49)) 1 0

sign_wanted : (lit : ℕ) → wanted (row_character lit) ≡ 1
sign_wanted lit = by (lit % 2 == 0)
  where
    by : (b : Bool) → wanted (cond b 49 48) ≡ 1
    by true = refl
    by false = refl

row_weight : (lits : List ℕ) → row_literals (map row_character lits) ≡ length lits
row_weight [] = refl
row_weight (lit ∷ lits) = sum_by-cons wanted (row_character lit) (map row_character lits) ∙ ap₂ (λ a b. a + b) (sign_wanted lit) (row_weight lits) ∙ (let e : 1 + length lits ≡ suc (length lits) = omega arith in e)

abbrev weight_of_node : Node → ℕ
weight_of_node node = rows_weight node.rows

node_weight : (aig : Aig) (lits : List ℕ) (out : ℕ) → weight_of_node (node_of aig lits out) ≡ 2 + length lits
node_weight aig lits out = let e = row_weight lits in omega (arith, e)

-- what nodes weigh together
abbrev reads_weight : List (List ℕ) → ℕ
reads_weight reads = sum_by (λ (lits : List ℕ). 2 + length lits) reads

nodes_weight : (aig : Aig) (n : ℕ) (reads : List (List ℕ)) → sum_by weight_of_node (nodes_from aig n reads) ≡ reads_weight reads
nodes_weight aig n [] = refl
nodes_weight aig n (lits ∷ reads) =
    sum_by-cons weight_of_node (node_of aig lits n) (nodes_from aig (suc n) reads)
    ∙ ap₂ (λ a b. a + b) (node_weight aig lits n) (nodes_weight aig (suc n) reads)
    ∙ sym (sum_by-cons (λ (l : List ℕ). 2 + length l) lits reads)

gates_weight : (gates : List AigAnd) → reads_weight (map sides_of gates) ≡ 4 * length gates
gates_weight [] = refl
gates_weight (gate ∷ gates) = let e = sum_by-cons (λ (l : List ℕ). 2 + length l) (sides_of gate) (map sides_of gates) in let rest = gates_weight gates in omega (arith, e, rest)

wires_weight : (lits : List ℕ) → reads_weight (map buffer lits) ≡ 3 * length lits
wires_weight [] = refl
wires_weight (lit ∷ lits) = let e = sum_by-cons (λ (l : List ℕ). 2 + length l) (buffer lit) (map buffer lits) in let rest = wires_weight lits in omega (arith, e, rest)

all_weight : (aig : Aig) → reads_weight (node_reads aig) ≡ 4 * length aig.ands + 3 * (length aig.latches + length aig.outputs)
all_weight aig =
    let nexts = map (λ (latch : AigLatch). latch.next) aig.latches in
    let all = sum_by-append (λ (l : List ℕ). 2 + length l) (map sides_of aig.ands) (map buffer (nexts ++ aig.outputs)) in
    let gates = gates_weight aig.ands in
    let buffers = wires_weight (nexts ++ aig.outputs) in
    let many = length-append nexts aig.outputs in
    let few = length-map aig.latches (λ (latch : AigLatch). latch.next) in
    omega (arith, all, gates, buffers, many, few)

module _ (aig : Aig) (flat : Flat) (s : IsSoundAig aig) (small : aig_weight aig < 2 ^ 31) (h : IsFlatOfAig aig flat) where
  nodes_weigh : sum_by weight_of_node flat.nodes ≡ 1 + (4 * length aig.ands + 3 * (length aig.latches + length aig.outputs))
  nodes_weigh =
      ap (sum_by weight_of_node) h.nodes
      ∙ sum_by-cons weight_of_node zero_node (nodes_from aig (first_gate aig) (node_reads aig))
      ∙ ap (λ n. 1 + n) (nodes_weight aig (first_gate aig) (node_reads aig) ∙ all_weight aig)

  pub weighed : IsWeighed flat
  weighed = record {
    nets = omega (arith, net_count aig flat s h, many_reads aig, h.weight);
    parts = omega (arith, in_count aig flat s h, out_count aig flat s h, latch_count aig flat s h, nodes_weigh, h.weight);
    few = omega (arith, h.weight, small);
  }
