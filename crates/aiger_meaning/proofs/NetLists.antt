-- Nets by their numbers, and numbers of literals.
use Rattle.std.proofs.Common.{ℕ, zero, suc, ◌+◌, ◌-◌, ◌%◌, ◌<◌, ◌≤◌, ◌≡◌, ◌≢◌, ⊎_elim, refl, sym, ap, ap₂, ◌∙◌, subst, true, ◌==◌, List, [], ◌∷◌, ◌++◌, map, length, get_or, arith, length-append}
use Rattle.std.specs.Prelude.{Contains, replicate}
use Rattle.std.proofs.lemmas.Bool.{cases_lt, ne_eqb}
use Rattle.std.proofs.lemmas.Bool.Decides.{nat_tests}
use Rattle.std.proofs.lemmas.List.{get_or_default, length-map, length-replicate, length-take-le, length-drop}
use Rattle.std.proofs.lemmas.List.Sums.{position_or_len_is}
use Rattle.netlist_core.specs.declared.flat.Net.{Net as FlatNet}
use Rattle.netlist_core.specs.declared.flat.Node.{Node}
use Rattle.netlist_core.specs.Names.{Name}
use Rattle.aiger_text.specs.declared.aig.AigLatch.{AigLatch}
use Rattle.aiger_text.specs.declared.aig.AigAnd.{AigAnd}
use Rattle.aiger_text.specs.declared.aig.Aig.{Aig}
use Rattle.aiger_text.specs.EntryFaults.{even}
use Rattle.aiger_text.specs.SoundAig.{definitions, sides_of, input_names, output_names, IsSoundAig}
use Rattle.aiger_meaning.specs.FlatOf.{own_literals, net_of_literal, node_of, node_reads, nodes_from, buffer, first_gate, net_names, nets_from}

-- a net among numbered ones
pub net_at : (n : ℕ) (names : List Name) (k : ℕ) (d : FlatNet) → k < length names → get_or (nets_from n names) k d ≡ record { place = []; name = get_or names k []; class = n + k }
net_at n [] k d l = absurd (omega (arith, l))
net_at n (name ∷ names) zero d l = ap (λ m. record { place = []; name = name; class = m }) (let e : n ≡ n + 0 = omega arith in e)
net_at n (name ∷ names) (suc k) d l =
    net_at (suc n) names k d (omega (arith, l)) ∙ ap (λ m. record { place = []; name = get_or names k []; class = m }) (let e : suc n + k ≡ n + suc k = omega arith in e)

pub many_nets : (n : ℕ) (names : List Name) → length (nets_from n names) ≡ length names
many_nets n [] = refl
many_nets n (name ∷ names) = ap suc (many_nets (suc n) names)

-- a node among those on nets from one on
pub node_is : (aig : Aig) (n : ℕ) (reads : List (List ℕ)) (k : ℕ) (d : Node) → k < length reads → get_or (nodes_from aig n reads) k d ≡ node_of aig (get_or reads k []) (n + k)
node_is aig n [] k d l = absurd (omega (arith, l))
node_is aig n (lits ∷ reads) zero d l = ap (node_of aig lits) (let e : n ≡ n + 0 = omega arith in e)
node_is aig n (lits ∷ reads) (suc k) d l = node_is aig (suc n) reads k d (omega (arith, l)) ∙ ap (node_of aig (get_or reads k [])) (let e : suc n + k ≡ n + suc k = omega arith in e)

pub many_nodes : (aig : Aig) (n : ℕ) (reads : List (List ℕ)) → length (nodes_from aig n reads) ≡ length reads
many_nodes aig n [] = refl
many_nodes aig n (lits ∷ reads) = ap suc (many_nodes aig (suc n) reads)

-- how many literals and nodes there are
pub many_definitions : (aig : Aig) → length (definitions aig) ≡ length aig.inputs + length aig.latches + length aig.ands
many_definitions aig =
    let lits = map (λ (l : AigLatch). l.lit) aig.latches in
    let sides = map (λ (g : AigAnd). g.lhs) aig.ands in
    length-append (aig.inputs ++ lits) sides
    ∙ ap₂ (λ a b. a + b) (length-append aig.inputs lits ∙ ap (λ n. length aig.inputs + n) (length-map aig.latches (λ (l : AigLatch). l.lit))) (length-map aig.ands (λ (g : AigAnd). g.lhs))

pub many_reads : (aig : Aig) → length (node_reads aig) ≡ length aig.ands + (length aig.latches + length aig.outputs)
many_reads aig =
    let nexts = map (λ (l : AigLatch). l.next) aig.latches in
    length-append (map sides_of aig.ands) (map buffer (nexts ++ aig.outputs))
    ∙ ap₂ (λ a b. a + b) (length-map aig.ands sides_of)
    (length-map (nexts ++ aig.outputs) buffer ∙ length-append nexts aig.outputs ∙ ap (λ n. n + length aig.outputs) (length-map aig.latches (λ (l : AigLatch). l.next)))

pub many_names : (aig : Aig) → IsSoundAig aig → length (net_names aig) ≡ first_gate aig + length (node_reads aig)
many_names aig s =
    let inner : List Name = replicate (length aig.latches + length aig.ands + length aig.latches) [] in
    let ins : length (input_names aig) ≡ length aig.inputs = length-take-le (length aig.inputs) aig.names (omega (arith, s.all_named)) in
    let outs : length (output_names aig) ≡ length aig.outputs = (let e : length (output_names aig) ≡ length aig.names - length aig.inputs = length-drop (length aig.inputs) aig.names in omega (arith, e, s.all_named)) in
    let mid : length inner ≡ length aig.latches + length aig.ands + length aig.latches = length-replicate (length aig.latches + length aig.ands + length aig.latches) [] in
    let all : length (input_names aig ++ (inner ++ output_names aig)) ≡ length (input_names aig) + (length inner + length (output_names aig)) =
    length-append (input_names aig) (inner ++ output_names aig) ∙ ap (λ n. length (input_names aig) + n) (length-append inner (output_names aig)) in
    let reads = many_reads aig in
    omega (arith, ins, outs, mid, all, reads)

-- an even number is its own
pub even_is : (n : ℕ) → n % 2 ≡ 0 → even n ≡ n
even_is n e = omega (arith, e)

pub even_even : (n : ℕ) → even (even n) ≡ even n
even_even n = omega arith

-- the literals with a net of their own are even, and no two are one
pub literal_even : (aig : Aig) → IsSoundAig aig → (k : ℕ) → k < length (own_literals aig) → even (get_or (own_literals aig) k 0) ≡ get_or (own_literals aig) k 0
literal_even aig s zero l = refl
literal_even aig s (suc k) l = even_is _ (s.definable k 0 (omega (arith, l))).1

pub literals_apart : (aig : Aig) → IsSoundAig aig → (i j : ℕ) → i < j → j < length (own_literals aig) → get_or (own_literals aig) i 0 ≢ get_or (own_literals aig) j 0
literals_apart aig s i zero l m e = omega (arith, l)
literals_apart aig s zero (suc j) l m e = let large : 1 < get_or (definitions aig) j 0 = (s.definable j 0 (omega (arith, m))).0 in omega (arith, large, e)
literals_apart aig s (suc i) (suc j) l m e = s.once i j 0 (omega (arith, l)) (omega (arith, m)) e

-- the net of the k-th of them is k
pub net_is : (aig : Aig) → IsSoundAig aig → (k lit : ℕ) → k < length (own_literals aig) → even lit ≡ get_or (own_literals aig) k 0 → net_of_literal aig lit ≡ k
net_is aig s k lit l e =
    position_or_len_is (λ own. own == even lit) (own_literals aig) k 0 (omega (arith, l))
    (λ i low. ne_eqb _ _ (λ same. literals_apart aig s i k low l (same ∙ e)))
    (λ _. ap (λ n. n == even lit) (sym e) ∙ itself (even lit))
  where
    itself : (n : ℕ) → (n == n) ≡ true
    itself n = grind (arith, nat_tests)

-- a literal that is constant, or whose variable is defined, has a net
pub record HasNet (aig : Aig) (lit : ℕ) : Type 0 where
  pub within : net_of_literal aig lit < length (own_literals aig)
  pub is : get_or (own_literals aig) (net_of_literal aig lit) 0 ≡ even lit

pub has_net : (aig : Aig) → IsSoundAig aig → (lit : ℕ) → (1 < lit → Contains (definitions aig) (even lit)) → HasNet aig lit
has_net aig s lit h = ⊎_elim large small (cases_lt 1 lit)
  where
    at : (k : ℕ) → k < length (own_literals aig) → even lit ≡ get_or (own_literals aig) k 0 → HasNet aig lit
    at k l e = let is = net_is aig s k lit l e in record { within = subst (λ n. n < length (own_literals aig)) (sym is) l; is = ap (λ n. get_or (own_literals aig) n 0) is ∙ sym e }

    large : 1 < lit → HasNet aig lit
    large more =
        let (k, l, is) = h more in
        at (suc k) (omega (arith, l)) (sym is ∙ get_or_default (definitions aig) k (even lit) 0 l)

    small : lit ≤ 1 → HasNet aig lit
    small few = at 0 (omega arith) (let e : even lit ≡ 0 = omega (arith, few) in e)
