-- What so many gates weigh.
use Rattle.std.proofs.Common.{◌≡◌, refl, sym, subst, ℕ, suc, ◌+◌, ◌*◌, ◌≤◌, List, [], ◌∷◌, length, arith, sum_by}
use Rattle.std.proofs.lemmas.List.Sums.{sum_by-cons}
use Rattle.std.proofs.lemmas.List.FromFn.{length-map-range_with_len}
use Rattle.netlist_core.specs.OwnWeight.{cover_weight}
use Rattle.netlist_meaning.specs.Weight.{weight}
use Rattle.made_netlists.specs.declared.gate.GateKind.{GateKind}
use Rattle.made_netlists.specs.declared.gate.GateKind.TheVariants.{And, Or, Xor, Nand}
use Rattle.made_netlists.specs.declared.gate.Gate.{Gate}
use Rattle.made_netlists.specs.Text.{drawn_gate, drawn_gates, net_name}
use Rattle.made_netlists.specs.Design.{covers_from, gate_cover, line_after, made_design}
use Rattle.made_summary.specs.MadeNetlists.{MadeHaveWeights}

gate_weight : (k : GateKind) (n : ℕ) (a b o : List ℕ) → cover_weight (gate_cover k n a b o) ≤ 7
gate_weight And n a b o = let e : 4 ≤ 7 = omega arith in e
gate_weight Or n a b o = let e : 5 ≤ 7 = omega arith in e
gate_weight Xor n a b o = let e : 7 ≤ 7 = omega arith in e
gate_weight Nand n a b o = let e : 4 ≤ 7 = omega arith in e

covers_weight : (n : ℕ) (gs : List Gate) → sum_by cover_weight (covers_from n gs) ≤ 7 * length gs
covers_weight n [] = omega arith
covers_weight n (g ∷ gs) =
    let first : ℕ = cover_weight (gate_cover g.kind n (net_name g.first) (net_name g.second) (net_name g.out)) in
    let later : ℕ = sum_by cover_weight (covers_from (line_after g.kind n) gs) in
    let more : ℕ = length gs in
    let here : first ≤ 7 = gate_weight g.kind n (net_name g.first) (net_name g.second) (net_name g.out) in
    let rest : later ≤ 7 * more = covers_weight (line_after g.kind n) gs in
    let whole : first + later ≤ 7 * suc more = omega (arith, here, rest) in
    subst (λ w. w ≤ 7 * suc more) (sym (sum_by-cons cover_weight (gate_cover g.kind n (net_name g.first) (net_name g.second) (net_name g.out)) (covers_from (line_after g.kind n) gs))) whole

pub how_many : (seed size : ℕ) → length (drawn_gates seed size) ≡ size
how_many seed size = length-map-range_with_len (drawn_gate seed) 0 size

weight_is : (seed size : ℕ) → weight (made_design seed size) ≡ 11 + sum_by cover_weight (covers_from 6 (drawn_gates seed size)) + 0
weight_is seed size = refl

pub have_weights : MadeHaveWeights
have_weights seed size =
    let sum : ℕ = sum_by cover_weight (covers_from 6 (drawn_gates seed size)) in
    let few : sum ≤ 7 * size = subst (λ n. sum ≤ 7 * n) (how_many seed size) (covers_weight 6 (drawn_gates seed size)) in
    let whole : 11 + sum + 0 ≤ 11 + 7 * size = omega (arith, few) in
    subst (λ w. w ≤ 11 + 7 * size) (sym (weight_is seed size)) whole
