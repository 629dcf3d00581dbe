-- The computed bits of a circuit while all inputs are 0 are those of each valuation.
use Rattle.std.proofs.Common.{ℕ, zero, suc, ◌+◌, ◌*◌, ◌/◌, ◌%◌, ◌-◌, ◌<◌, ◌≤◌, ◌≡◌, ◌⊎◌, ⊎_elim, inl, inr, refl, sym, ap, ap₂, ◌∙◌, subst, Bool, true, false, true≢false, cond, ◌&&◌, ◌==◌, List, [], ◌∷◌, ◌++◌, map, flat_map, take, length, get_or, arith}
use Rattle.std.specs.Prelude.{sum_by, replicate, Option, Some, None}
use Rattle.std.specs.List.{find}
use Rattle.std.specs.Option.{option_map_or}
use Rattle.std.proofs.lemmas.Bool.{cases_lt, eqb-true, eqb-false, eq-eqb}
use Rattle.std.proofs.lemmas.Grind.{get_or_default_zero}
use Rattle.std.proofs.lemmas.Option.{none-some, same_Some}
use Rattle.std.proofs.lemmas.List.{get_or-map, get_or-replicate, length-map, take_all}
use Rattle.std.proofs.lemmas.List.Sums.{sum_by-append, sum_by-cons, sum_by_more}
use Rattle.lists.proofs.Members.{In, in_left, in_right}
use Rattle.netlist_core.specs.declared.flat.Node.{Node}
use Rattle.netlist_core.specs.declared.flat.Flat.{Flat}
use Rattle.netlist_meaning.specs.Flat.{class_of, node_at, no_node, in_classes, out_class}
use Rattle.netlist_meaning.specs.FlatOrder.{IsOrder, IsDrivenBy}
use Rattle.cover_mapper.proofs.Weights.{weigh_at_most}
use Rattle.cell_polarity.specs.Zero.{complement_if}
use Rattle.aiger_text.specs.declared.aig.AigLatch.{AigLatch}
use Rattle.aiger_text.specs.declared.aig.AigAnd.{AigAnd}
use Rattle.aiger_text.specs.declared.aig.Aig.{Aig}
use Rattle.aiger_text.specs.EntryFaults.{even}
use Rattle.aiger_text.specs.SoundAig.{sides_of, IsSoundAig}
use Rattle.aiger_meaning.specs.Circuit.{IsAigValuation}
use Rattle.aiger_meaning.specs.FlatOf.{own_literals, net_of_literal, net_id, node_of, nodes_from, node_reads, zero_node, buffer, first_gate, IsFlatOfAig}
use Rattle.aiger_meaning.proofs.NetLists.{HasNet, net_is, many_reads}
use Rattle.aiger_meaning.proofs.View.{class_is, node_at_is, node_count, literal_count, count_is, out_class_is}
use Rattle.aiger_meaning.proofs.Within.{read_has, node_has}
use Rattle.aiger_meaning.proofs.Values.{input_literal, gate_literal}
use Rattle.aiger_meaning.proofs.Valuations.{gate_reads, no_gate}
use Rattle.aiger_plans.specs.Zero.{is_odd, and_gate_of, bit_at_zero, BitsAtZeroAreMeant}

-- ---- what `find` finds
record FoundAt {X : Type 0} (p : X → Bool) (xs : List X) (x d : X) : Type 0 where
  pub place : ℕ
  pub within : place < length xs
  pub is : get_or xs place d ≡ x
  pub passes : p x ≡ true

some_parts : {X : Type 0} (b : Bool) (y : X) (rest : Option X) (x : X) → cond b (Some y) rest ≡ Some x → ((b ≡ true) × (y ≡ x)) ⊎ (rest ≡ Some x)
some_parts true y rest x e = inl (refl, same_Some _ _ e)
some_parts false y rest x e = inr e

none_parts : {X : Type 0} (b : Bool) (y : X) (rest : Option X) → cond b (Some y) rest ≡ None → (b ≡ false) × (rest ≡ None)
none_parts true y rest e = absurd (none-some y (sym e))
none_parts false y rest e = (refl, e)

found_at : {X : Type 0} (p : X → Bool) (xs : List X) (x d : X) → find p xs ≡ Some x → FoundAt p xs x d
found_at p [] x d e = absurd (none-some x e)
found_at p (y ∷ ys) x d e =
    ⊎_elim
    (λ here. record { place = 0; within = omega arith; is = here.1; passes = ap p (sym here.1) ∙ here.0 })
    (λ later. let rest = found_at p ys x d later in let lt = rest.within in record { place = suc rest.place; within = omega (arith, lt); is = rest.is; passes = rest.passes })
    (some_parts (p y) y (find p ys) x e)

none_found : {X : Type 0} (p : X → Bool) (xs : List X) (i : ℕ) (d : X) → find p xs ≡ None → i < length xs → p (get_or xs i d) ≡ false
none_found p [] i d e lt = absurd (omega (arith, lt))
none_found p (y ∷ ys) zero d e lt = (none_parts (p y) y (find p ys) e).0
none_found p (y ∷ ys) (suc i) d e lt = none_found p ys i d (none_parts (p y) y (find p ys) e).1 (omega (arith, lt))

-- ---- how many gates there are
abbrev of_gate : Node → ℕ
of_gate node = cond (length node.ins == 2) 1 0

abbrev of_pair : List ℕ → ℕ
of_pair lits = cond (length lits == 2) 1 0

nodes_count : (aig : Aig) (n : ℕ) (reads : List (List ℕ)) → sum_by of_gate (nodes_from aig n reads) ≡ sum_by of_pair reads
nodes_count aig n [] = refl
nodes_count aig n (lits ∷ reads) =
    sum_by-cons of_gate (node_of aig lits n) (nodes_from aig (suc n) reads)
    ∙ ap₂ (λ a b. a + b) (ap (λ m. cond {A = ℕ} (m == 2) 1 0) (length-map lits (λ lit. net_id (net_of_literal aig lit)))) (nodes_count aig (suc n) reads)
    ∙ sym (sum_by-cons of_pair lits reads)

gates_count : (gates : List AigAnd) → sum_by of_pair (map sides_of gates) ≡ length gates
gates_count [] = refl
gates_count (gate ∷ gates) = let e = sum_by-cons of_pair (sides_of gate) (map sides_of gates) in let rest = gates_count gates in omega (arith, e, rest)

wires_count : (lits : List ℕ) → sum_by of_pair (map buffer lits) ≡ 0
wires_count [] = refl
wires_count (lit ∷ lits) = let e = sum_by-cons of_pair (buffer lit) (map buffer lits) in let rest = wires_count lits in omega (arith, e, rest)

abbrev value_of : Aig → ℕ → Option AigAnd → Bool
value_of aig count found = option_map_or (λ (gate : AigAnd). bit_at_zero aig count gate.rhs0 && bit_at_zero aig count gate.rhs1) found false

complement_none : (b : Bool) → b ≡ complement_if b false
complement_none true = refl
complement_none false = refl

module _ (aig : Aig) (flat : Flat) (order : List ℕ) (s : IsSoundAig aig) (h : IsFlatOfAig aig flat) (o : IsOrder flat order) where
  gates_many : sum_by of_gate flat.nodes ≡ length aig.ands
  gates_many =
      let nexts = map (λ (latch : AigLatch). latch.next) aig.latches in
      let zero_first = ap (sum_by of_gate) h.nodes ∙ sum_by-cons of_gate zero_node (nodes_from aig (first_gate aig) (node_reads aig)) in
      let rest = nodes_count aig (first_gate aig) (node_reads aig) in
      let split = sum_by-append of_pair (map sides_of aig.ands) (map buffer (nexts ++ aig.outputs)) in
      let gates = gates_count aig.ands in
      let wires = wires_count (nexts ++ aig.outputs) in
      omega (arith, zero_first, rest, split, gates, wires)

  -- how many gates stand before a place of the order
  abbrev rank : ℕ → ℕ
  rank place = sum_by (λ n. of_gate (node_at flat n)) (take place order)

  rank_next : (place : ℕ) → place < length order → rank (place + 1) ≡ rank place + of_gate (node_at flat (get_or order place 0))
  rank_next place lt = sum_by_more (λ n. of_gate (node_at flat n)) order place 0 lt

  rank_grows : (more place later : ℕ) → later ≡ place + more → later ≤ length order → rank place ≤ rank later
  rank_grows zero place later e le = let same : rank place ≡ rank later = ap rank (let f : place ≡ later = omega (arith, e) in f) in omega (arith, same)
  rank_grows (suc more) place later e le =
      let before = rank_grows more place (place + more) refl (omega (arith, e, le)) in
      let next = rank_next (place + more) (omega (arith, e, le)) in
      let same : rank later ≡ rank (place + more + 1) = ap rank (let f : later ≡ place + more + 1 = omega (arith, e) in f) in
      omega (arith, before, next, same)

  rank_all : rank (length order) ≤ length aig.ands
  rank_all =
      let all : sum_by (λ n. of_gate (node_at flat n)) (take (length order) order) ≡ sum_by (λ n. of_gate (node_at flat n)) order =
      ap (sum_by (λ n. of_gate (node_at flat n))) (take_all (length order) order (omega arith)) in
      let most : sum_by (λ n. of_gate (node_at flat n)) order ≤ sum_by of_gate flat.nodes = weigh_at_most of_gate flat.nodes no_node order o.once o.nodes in
      omega (arith, all, most, gates_many)

  -- ---- the nodes of gates
  gate_node : (j : ℕ) → j < length aig.ands → node_at flat (suc j) ≡ node_of aig (sides_of (get_or aig.ands j no_gate)) (first_gate aig + j)
  gate_node j lt =
      let many = many_reads aig in
      node_at_is aig flat s h j (omega (arith, lt, many)) ∙ ap (λ lits. node_of aig lits (first_gate aig + j)) (gate_reads aig j no_gate lt)

  counts_one : (j : ℕ) → j < length aig.ands → of_gate (node_at flat (suc j)) ≡ 1
  counts_one j lt = ap of_gate (gate_node j lt)

  -- the gate stands in the order, with fewer than so many gates before it
  record StandsBefore (count j : ℕ) : Type 0 where
    pub place : ℕ
    pub within : place < length order
    pub is : get_or order place 0 ≡ suc j
    pub few : rank place < count

  abbrev Below : ℕ → ℕ → Type 0
  Below count lit = (j : ℕ) → j < length aig.ands → net_of_literal aig lit ≡ first_gate aig + j → StandsBefore count j

  stands : (j : ℕ) → j < length aig.ands → StandsBefore (length aig.ands) j
  stands j lt =
      let many = many_reads aig in
      let at = o.all (suc j) (omega (arith, lt, many, node_count aig flat s h)) in
      let place_in : at.0 < length order = at.1 in
      let is : get_or order at.0 0 ≡ suc j = sym (get_or_default_zero order at.0 (suc j) at.1) ∙ at.2 in
      let next = rank_next at.0 at.1 in
      let one : of_gate (node_at flat (get_or order at.0 0)) ≡ 1 = ap (λ n. of_gate (node_at flat n)) is ∙ counts_one j lt in
      let more = rank_grows (length order - (at.0 + 1)) (at.0 + 1) (length order) (omega (arith, place_in)) (omega arith) in
      record { place = at.0; within = at.1; is = is; few = omega (arith, next, one, more, rank_all) }

  -- what a gate reads stands before it
  side_below : (count j k : ℕ) (side : ℕ) → j < length aig.ands → HasNet aig side → k < 2 → get_or (sides_of (get_or aig.ands j no_gate)) k 0 ≡ side → StandsBefore (suc count) j → Below count side
  side_below count j k side lt has two is at i low net =
      let many = many_reads aig in
      let gate = get_or aig.ands j no_gate in
      let ins : in_classes flat (suc j) ≡ map (class_of flat) (map (λ lit. net_id (net_of_literal aig lit)) (sides_of gate)) = ap (λ (node : Node). map (class_of flat) node.ins) (gate_node j lt) in
      let read : get_or (in_classes flat (suc j)) k 0 ≡ out_class flat (suc i) =
      ap (λ (l : List ℕ). get_or l k 0) ins
      ∙ get_or-map (class_of flat) (map (λ lit. net_id (net_of_literal aig lit)) (sides_of gate)) k (net_id 0) 0 (omega (arith, two))
      ∙ ap (class_of flat) (get_or-map (λ lit. net_id (net_of_literal aig lit)) (sides_of gate) k 0 (net_id 0) (omega (arith, two)) ∙ ap (λ lit. net_id (net_of_literal aig lit)) is)
      ∙ class_is aig flat s h (net_of_literal aig side) (omega (arith, has.within, literal_count aig flat s h, count_is aig flat s h))
      ∙ net
      ∙ sym (out_class_is aig flat s h i (omega (arith, low, many))) in
      let long : length (in_classes flat (suc j)) ≡ 2 = ap (λ (l : List ℕ). length l) ins in
      let driven : IsDrivenBy flat (suc j) k (suc i) = (omega (arith, low, many, node_count aig flat s h), omega (arith, two, long), read) in
      let before = o.after at.place k (suc i) at.within (subst (λ n. IsDrivenBy flat n k (suc i)) (sym at.is) driven) in
      let earlier : before.0 < at.place = before.1 in
      let inside = at.within in
      let few = at.few in
      let next = rank_next before.0 (omega (arith, earlier, inside)) in
      let one : of_gate (node_at flat (get_or order before.0 0)) ≡ 1 = ap (λ n. of_gate (node_at flat n)) before.2 ∙ counts_one i low in
      let more = rank_grows (at.place - (before.0 + 1)) (before.0 + 1) at.place (omega (arith, earlier)) (omega (arith, inside)) in
      record { place = before.0; within = omega (arith, earlier, inside); is = before.2; few = omega (arith, next, one, more, few) }

  module _ (bits : ℕ → Bool) (v : IsAigValuation aig (replicate (length aig.inputs) false) [] bits) where
    no_latches : length aig.latches ≡ 0
    no_latches = sym (length-map aig.latches (λ (latch : AigLatch). bits latch.lit)) ∙ ap (λ (l : List Bool). length l) v.latches_hold

    signed : (lit : ℕ) → complement_if (is_odd lit) (bits (even lit)) ≡ bits lit
    signed lit = by (lit % 2 == 1) refl
      where
        by : (b : Bool) → (lit % 2 == 1) ≡ b → complement_if b (bits (even lit)) ≡ bits lit
        by true e =
            let odd = eqb-true (lit % 2) 1 e in
            sym (v.inverted (lit / 2)) ∙ ap bits (let is : 2 * (lit / 2) + 1 ≡ lit = omega (arith, odd) in is)
        by false e =
            let other = eqb-false (lit % 2) 1 e in
            ap bits (let is : 2 * (lit / 2) ≡ lit = omega (arith, other) in is)

    -- a literal that is no left side
    leaf : (lit : ℕ) → HasNet aig lit → net_of_literal aig lit < first_gate aig → bits (even lit) ≡ false
    leaf lit has low = ⊎_elim input constant (cases_lt 0 (net_of_literal aig lit))
      where
        constant : net_of_literal aig lit ≤ 0 → bits (even lit) ≡ false
        constant none =
            let first : net_of_literal aig lit ≡ 0 = omega (arith, none) in
            ap bits (sym has.is ∙ ap (λ n. get_or (own_literals aig) n 0) first) ∙ v.constant

        input : 0 < net_of_literal aig lit → bits (even lit) ≡ false
        input some =
            let i : ℕ = net_of_literal aig lit - 1 in
            let lt : i < length aig.inputs = omega (arith, some, low, no_latches) in
            let at : net_of_literal aig lit ≡ 1 + i = omega (arith, some) in
            ap bits (sym has.is ∙ ap (λ n. get_or (own_literals aig) n 0) at ∙ input_literal aig i lt)
            ∙ sym (get_or-map bits aig.inputs i 0 false lt)
            ∙ ap (λ (l : List Bool). get_or l i false) v.inputs_given
            ∙ get_or-replicate (length aig.inputs) i false false lt

    -- where the gate's literal is the net's
    gate_own : (j lit : ℕ) → j < length aig.ands → even lit ≡ (get_or aig.ands j no_gate).lhs → net_of_literal aig lit ≡ first_gate aig + j
    gate_own j lit lt e =
        net_is aig s (first_gate aig + j) lit (omega (arith, lt, literal_count aig flat s h))
        (e ∙ sym (gate_literal aig j ∙ get_or-map (λ (gate : AigAnd). gate.lhs) aig.ands j no_gate 0 lt))

    own_gate : (lit : ℕ) → HasNet aig lit → (j : ℕ) → net_of_literal aig lit ≡ first_gate aig + j → j < length aig.ands → (get_or aig.ands j no_gate).lhs ≡ even lit
    own_gate lit has j net lt =
        sym (gate_literal aig j ∙ get_or-map (λ (gate : AigAnd). gate.lhs) aig.ands j no_gate 0 lt) ∙ ap (λ n. get_or (own_literals aig) n 0) (sym net) ∙ has.is

    split_off : (lit : ℕ) → HasNet aig lit → first_gate aig ≤ net_of_literal aig lit → (j : ℕ) × (j < length aig.ands) × (net_of_literal aig lit ≡ first_gate aig + j)
    split_off lit has past =
        let inside = has.within in
        (net_of_literal aig lit - first_gate aig, omega (arith, past, inside, literal_count aig flat s h), omega (arith, past))

    same_bit : (count lit : ℕ) → HasNet aig lit → Below count lit → bit_at_zero aig count lit ≡ bits lit
    same_bit zero lit has below = ⊎_elim (λ low. complement_none (is_odd lit) ∙ ap (complement_if (is_odd lit)) (sym (leaf lit has low)) ∙ signed lit) gate (cases_lt (net_of_literal aig lit) (first_gate aig))
      where
        gate : first_gate aig ≤ net_of_literal aig lit → bit_at_zero aig zero lit ≡ bits lit
        gate past = let at = split_off lit has past in let few = (below at.0 at.1 at.2).few in absurd (omega (arith, few))
    same_bit (suc count) lit has below = by (and_gate_of aig (even lit)) refl (same_bit count)
      where
        by : (found : Option AigAnd) → and_gate_of aig (even lit) ≡ found → ((side : ℕ) → HasNet aig side → Below count side → bit_at_zero aig count side ≡ bits side) → bit_at_zero aig (suc count) lit ≡ bits lit
        by None e sides =
            ap (λ f. complement_if (is_odd lit) (value_of aig count f)) e
            ∙ ⊎_elim (λ low. ap (complement_if (is_odd lit)) (sym (leaf lit has low)) ∙ signed lit)
            (λ past.
            let at = split_off lit has past in
            let own = own_gate lit has at.0 at.2 at.1 in
            absurd (true≢false (sym (eq-eqb _ _ own) ∙ none_found (λ (gate : AigAnd). gate.lhs == even lit) aig.ands at.0 no_gate e at.1)))
            (cases_lt (net_of_literal aig lit) (first_gate aig))
        by (Some gate) e sides =
            let at = found_at (λ (g : AigAnd). g.lhs == even lit) aig.ands gate no_gate e in
            let j : ℕ = at.place in
            let lt : j < length aig.ands = at.within in
            let many = many_reads aig in
            let lhs : gate.lhs ≡ even lit = eqb-true gate.lhs (even lit) at.passes in
            let net = gate_own j lit lt (sym lhs ∙ ap (λ (g : AigAnd). g.lhs) (sym at.is)) in
            let stands_here = below j lt net in
            let reads_are : get_or (node_reads aig) j [] ≡ sides_of gate = gate_reads aig j no_gate lt ∙ ap sides_of at.is in
            let has0 : HasNet aig gate.rhs0 = node_has aig s j (omega (arith, lt, many)) gate.rhs0 (subst (In gate.rhs0) (sym reads_are) (inl refl)) in
            let has1 : HasNet aig gate.rhs1 = node_has aig s j (omega (arith, lt, many)) gate.rhs1 (subst (In gate.rhs1) (sym reads_are) (inr (inl refl))) in
            let first = sides gate.rhs0 has0 (side_below count j 0 gate.rhs0 lt has0 (omega arith) (ap (λ (g : AigAnd). g.rhs0) at.is) stands_here) in
            let second = sides gate.rhs1 has1 (side_below count j 1 gate.rhs1 lt has1 (omega arith) (ap (λ (g : AigAnd). g.rhs1) at.is) stands_here) in
            let holds : bits gate.lhs ≡ (bits gate.rhs0 && bits gate.rhs1) = subst (λ (g : AigAnd). bits g.lhs ≡ (bits g.rhs0 && bits g.rhs1)) at.is (v.gates_hold j no_gate lt) in
            ap (λ f. complement_if (is_odd lit) (value_of aig count f)) e
            ∙ ap (complement_if (is_odd lit)) (ap₂ (λ a b. a && b) first second ∙ sym holds ∙ ap bits lhs)
            ∙ signed lit

    all_same : (lits : List ℕ) → ((lit : ℕ) → In lit lits → HasNet aig lit) → map (bit_at_zero aig (length aig.ands)) lits ≡ map bits lits
    all_same [] has = refl
    all_same (lit ∷ lits) has =
        ap₂ (λ (b : Bool) (bs : List Bool). b ∷ bs) (same_bit (length aig.ands) lit (has lit (inl refl)) (λ j lt net. stands j lt)) (all_same lits (λ l i. has l (inr i)))

    pub bits_are : map (bit_at_zero aig (length aig.ands)) aig.outputs ≡ map bits aig.outputs
    bits_are =
        let nexts = map (λ (latch : AigLatch). latch.next) aig.latches in
        all_same aig.outputs (λ lit i. read_has aig s lit (in_left (nexts ++ aig.outputs) (flat_map sides_of aig.ands) lit (in_right nexts aig.outputs lit i)))

pub bits_at_zero_are_meant : BitsAtZeroAreMeant
bits_at_zero_are_meant aig flat order s h o bits v = bits_are aig flat order s h o bits v
