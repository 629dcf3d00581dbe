-- Where the flat netlist of a circuit asks for constant 1.
use Rattle.std.proofs.Common.{◌≡◌, refl, sym, ap, ap₂, ◌∙◌, ℕ, suc, ◌==◌, ◌%◌, ◌||◌, ◌&&◌, Bool, true, false, not, cond, List, [], ◌∷◌, ◌++◌, map, take, length, arith}
use Rattle.std.specs.List.{list_any}
use Rattle.std.proofs.Math.Bool.{or-false}
use Rattle.std.proofs.Math.Seq.{take-length}
use Rattle.std.proofs.lemmas.Bool.Decides.{nat_tests}
use Rattle.std.proofs.lemmas.List.{length-map}
use Rattle.std.proofs.lemmas.List.Folds.{list_any-append}
use Rattle.netlist_core.specs.declared.flat.Node.{Node}
use Rattle.netlist_core.specs.declared.flat.FlatLatch.{FlatLatch}
use Rattle.cell_meaning.specs.Needs.{needs_one}
use Rattle.aiger_text.specs.declared.aig.AigLatch.{AigLatch}
use Rattle.aiger_text.specs.declared.aig.AigAnd.{AigAnd}
use Rattle.aiger_text.specs.declared.aig.Aig.{Aig}
use Rattle.aiger_text.specs.SoundAig.{sides_of}
use Rattle.aiger_meaning.specs.FlatOf.{net_id, net_of_literal, node_of, nodes_from, node_reads, first_gate, buffer, row_character}
use Rattle.aiger_meaning.proofs.View.{many_latches}
use Rattle.netlist_plans.proofs.Sparing.{any_of}
use Rattle.aiger_plans.specs.Zero.{is_odd}
use Rattle.aiger_plans.specs.Needs.{aig_needs_one, FlatsOfAigsAskAlike}

-- no literal of a node is even
abbrev all_odd : List ℕ → Bool
all_odd lits = not (list_any (λ c. c == 49) (map row_character lits))

even_sign : (lit : ℕ) → (row_character lit == 49) ≡ not (is_odd lit)
even_sign lit = by (lit % 2 == 0) refl
  where
    by : (b : Bool) → (lit % 2 == 0) ≡ b → (cond b 49 48 == 49) ≡ not (is_odd lit)
    by true e = grind (arith, nat_tests, e)
    by false e = grind (arith, nat_tests, e)

node_needs : (aig : Aig) (lits : List ℕ) (n : ℕ) → needs_one (node_of aig lits n) ≡ all_odd lits
node_needs aig lits n =
    or-false _ ∙ or-false _
    ∙ ap (λ k. not (list_any (λ c. c == 49) (take k (map row_character lits)))) (length-map lits (λ lit. net_id (net_of_literal aig lit)) ∙ sym (length-map lits row_character))
    ∙ ap (λ row. not (list_any (λ c. c == 49) row)) (take-length (map row_character lits))

nodes_need : (aig : Aig) (n : ℕ) (reads : List (List ℕ)) → list_any needs_one (nodes_from aig n reads) ≡ list_any all_odd reads
nodes_need aig n [] = refl
nodes_need aig n (lits ∷ reads) = ap₂ (λ a b. a || b) (node_needs aig lits n) (nodes_need aig (suc n) reads)

gate_needs : (gate : AigAnd) → all_odd (sides_of gate) ≡ (is_odd gate.rhs0 && is_odd gate.rhs1)
gate_needs gate = ap₂ (λ a b. not (a || (b || false))) (even_sign gate.rhs0) (even_sign gate.rhs1) ∙ by (is_odd gate.rhs0) (is_odd gate.rhs1)
  where
    by : (a b : Bool) → not (not a || (not b || false)) ≡ (a && b)
    by true true = refl
    by true false = refl
    by false true = refl
    by false false = refl

buffer_needs : (lit : ℕ) → all_odd (buffer lit) ≡ is_odd lit
buffer_needs lit = ap (λ a. not (a || false)) (even_sign lit) ∙ by (is_odd lit)
  where
    by : (a : Bool) → not (not a || false) ≡ a
    by true = refl
    by false = refl

reads_need : (aig : Aig) → list_any all_odd (node_reads aig) ≡ aig_needs_one aig
reads_need aig =
    let lits = map (λ (latch : AigLatch). latch.next) aig.latches ++ aig.outputs in
    list_any-append all_odd (map sides_of aig.ands) (map buffer lits)
    ∙ ap₂ (λ a b. a || b) (any_of all_odd (λ (gate : AigAnd). is_odd gate.rhs0 && is_odd gate.rhs1) sides_of gate_needs aig.ands) (any_of all_odd is_odd buffer buffer_needs lits)

pub flats_of_aigs_ask_alike : FlatsOfAigsAskAlike
flats_of_aigs_ask_alike aig flat h = record {
  one = ap (λ (nodes : List Node). list_any needs_one nodes) h.nodes ∙ nodes_need aig (first_gate aig) (node_reads aig) ∙ reads_need aig;
  latches = ap (λ (latches : List FlatLatch). length latches) h.latches ∙ many_latches _ _ aig.latches;
}
