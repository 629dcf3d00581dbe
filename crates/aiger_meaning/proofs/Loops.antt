-- Loops of a circuit, and of its flat netlist.
use Rattle.std.proofs.Common.{ℕ, zero, suc, ◌+◌, ◌<◌, ◌≡◌, ◌⊎◌, inl, inr, ⊎_elim, ◌==◌, refl, sym, ap, ap₂, ◌∙◌, subst, List, [], ◌∷◌, map, length, get_or, arith}
use Rattle.std.specs.Prelude.{◌≢◌, All, AllPairs, Contains}
use Rattle.std.specs.List.{position_or_len}
use Rattle.std.proofs.lemmas.Bool.{cases_lt}
use Rattle.std.proofs.lemmas.List.{get_or_default, get_or-map, length-map}
use Rattle.std.proofs.lemmas.List.Elements.{All-tail}
use Rattle.lists.proofs.Members.{In, in_from, contains_from, in_map, in_mapped}
use Rattle.netlist_core.specs.declared.flat.NetId.{NetId}
use Rattle.netlist_core.specs.declared.flat.Node.{Node}
use Rattle.netlist_core.specs.declared.flat.Flat.{Flat}
use Rattle.netlist_meaning.specs.Flat.{class_of, IsNetId, in_classes, out_class}
use Rattle.netlist_meaning.specs.FlatOrder.{FlatFeeds, FlatFeedsThrough, IsFlatLoop, IsNetLoop}
use Rattle.aiger_text.specs.declared.aig.AigAnd.{AigAnd}
use Rattle.aiger_text.specs.declared.aig.Aig.{Aig}
use Rattle.aiger_text.specs.EntryFaults.{even}
use Rattle.aiger_text.specs.SoundAig.{sides_of, IsSoundAig}
use Rattle.aiger_meaning.specs.FlatOf.{own_literals, net_of_literal, net_id, node_reads, first_gate, IsFlatOfAig}
use Rattle.aiger_meaning.specs.Ids.{net_numbers}
use Rattle.aiger_meaning.specs.Laws.{literal_of_net, HasSameLoops}
use Rattle.aiger_meaning.specs.Loop.{AigFeeds, AigFeedsThrough, IsAigLoop}
use Rattle.aiger_meaning.proofs.NetLists.{HasNet, net_is, literal_even, literals_apart, even_even, many_reads}
use Rattle.aiger_meaning.proofs.View.{class_is, net_count, zero_is, node_at_is, node_count, literal_count, count_is, nodes_many, out_class_is}
use Rattle.aiger_meaning.proofs.Within.{node_has}
use Rattle.aiger_meaning.proofs.Values.{gate_literal}
use Rattle.aiger_meaning.proofs.Valuations.{gate_reads, no_gate}

module _ (aig : Aig) (flat : Flat) (s : IsSoundAig aig) (h : IsFlatOfAig aig flat) where
  -- what a node reads is the net of a literal
  record ReadsAt (k read : ℕ) : Type 0 where
    pub lit : ℕ
    pub is_in : In lit (get_or (node_reads aig) k [])
    pub has : HasNet aig lit
    pub is : read ≡ net_of_literal aig lit

  reads_at : (k read : ℕ) → k < nodes_many aig flat s h → Contains (in_classes flat (suc k)) read → ReadsAt k read
  reads_at k read l c =
      let lits = get_or (node_reads aig) k [] in
      let in_ids : In read (map (class_of flat) (map (λ lit. net_id (net_of_literal aig lit)) lits)) =
      subst (λ (node : Node). In read (map (class_of flat) node.ins)) (node_at_is aig flat s h k l) (in_from (in_classes flat (suc k)) read c) in
      let a = in_mapped (class_of flat) (map (λ lit. net_id (net_of_literal aig lit)) lits) read in_ids in
      let b = in_mapped (λ lit. net_id (net_of_literal aig lit)) lits a.0 a.1 in
      let has = node_has aig s k l b.0 b.1 in
      record {
        lit = b.0;
        is_in = b.1;
        has = has;
        is = a.2 ∙ ap (class_of flat) b.2 ∙ class_is aig flat s h (net_of_literal aig b.0) (omega (arith, has.within, literal_count aig flat s h, count_is aig flat s h));
      }

  -- and a node reads the net of each of its literals
  reads_it : (k lit : ℕ) → k < nodes_many aig flat s h → In lit (get_or (node_reads aig) k []) → Contains (in_classes flat (suc k)) (net_of_literal aig lit)
  reads_it k lit l i =
      let lits = get_or (node_reads aig) k [] in
      let has = node_has aig s k l lit i in
      let ids : In (class_of flat (net_id (net_of_literal aig lit))) (map (class_of flat) (map (λ x. net_id (net_of_literal aig x)) lits)) =
      in_map (class_of flat) (map (λ x. net_id (net_of_literal aig x)) lits) (net_id (net_of_literal aig lit)) (in_map (λ x. net_id (net_of_literal aig x)) lits lit i) in
      let class = class_is aig flat s h (net_of_literal aig lit) (omega (arith, has.within, literal_count aig flat s h, count_is aig flat s h)) in
      contains_from (in_classes flat (suc k)) (net_of_literal aig lit)
      (subst (λ x. In x (in_classes flat (suc k))) class
      (subst (λ (node : Node). In (class_of flat (net_id (net_of_literal aig lit))) (map (class_of flat) node.ins)) (sym (node_at_is aig flat s h k l)) ids))

  -- constant 0 reads nothing
  zero_reads : (read : ℕ) → ¬ Contains (in_classes flat 0) read
  zero_reads read c = subst (λ (node : Node). In read (map (class_of flat) node.ins)) (zero_is aig flat s h) (in_from (in_classes flat 0) read c)

  -- a class that is read is of a literal
  read_own : (read written : ℕ) → FlatFeeds flat read written → read < length (own_literals aig)
  read_own read written f = by f.node f.is_node f.reads
    where
      by : (n : ℕ) → n < length flat.nodes → Contains (in_classes flat n) read → read < length (own_literals aig)
      by zero l c = absurd (zero_reads read c)
      by (suc k) l c = let r = reads_at k read (omega (arith, l, node_count aig flat s h)) c in subst (λ n. n < length (own_literals aig)) (sym r.is) r.has.within

  -- the literal of a gate's net
  gate_is : (k : ℕ) → k < length aig.ands → literal_of_net aig (first_gate aig + k) ≡ (get_or aig.ands k no_gate).lhs
  gate_is k l = gate_literal aig k ∙ get_or-map (λ (gate : AigAnd). gate.lhs) aig.ands k no_gate 0 l

  link : (read written : ℕ) → FlatFeeds flat read written → written < length (own_literals aig) → AigFeeds aig (literal_of_net aig read) (literal_of_net aig written)
  link read written f own = by f.node f.is_node f.reads f.writes
    where
      by : (n : ℕ) → n < length flat.nodes → Contains (in_classes flat n) read → out_class flat n ≡ written → AigFeeds aig (literal_of_net aig read) (literal_of_net aig written)
      by zero l c w = absurd (zero_reads read c)
      by (suc k) l c w =
          let low : k < nodes_many aig flat s h = omega (arith, l, node_count aig flat s h) in
          let out : first_gate aig + k ≡ written = sym (out_class_is aig flat s h k low) ∙ w in
          let few : k < length aig.ands = omega (arith, out, own, literal_count aig flat s h) in
          let r = reads_at k read low c in
          let gate = get_or aig.ands k no_gate in
          let lit_is : even r.lit ≡ literal_of_net aig read = sym r.has.is ∙ ap (literal_of_net aig) (sym r.is) in
          record {
            gate = gate;
            has_gate = (k, few, get_or_default_here k few);
            reads = side gate r.lit (literal_of_net aig read) (subst (In r.lit) (gate_reads aig k no_gate few) r.is_in) lit_is;
            writes = sym (gate_is k few) ∙ ap (literal_of_net aig) out;
          }
        where
          get_or_default_here : (k : ℕ) → k < length aig.ands → get_or aig.ands k (get_or aig.ands k no_gate) ≡ get_or aig.ands k no_gate
          get_or_default_here k l = get_or_default aig.ands k (get_or aig.ands k no_gate) no_gate l

          side : (gate : AigAnd) (lit own : ℕ) → In lit (sides_of gate) → even lit ≡ own → (even gate.rhs0 ≡ own) ⊎ (even gate.rhs1 ≡ own)
          side gate lit own (inl e) is = inl (ap even (sym e) ∙ is)
          side gate lit own (inr (inl e)) is = inr (ap even (sym e) ∙ is)
          side gate lit own (inr (inr none)) is = absurd none

  first_own : (start : ℕ) (classes : List ℕ) (end : ℕ) → FlatFeedsThrough flat start classes end → start < length (own_literals aig)
  first_own start [] end f = read_own start end f
  first_own start (class ∷ classes) end f = read_own start class f.0

  through : (start : ℕ) (classes : List ℕ) (end : ℕ) → FlatFeedsThrough flat start classes end → end < length (own_literals aig) → AigFeedsThrough aig (literal_of_net aig start) (map (literal_of_net aig) classes) (literal_of_net aig end)
  through start [] end f own = link start end f own
  through start (class ∷ classes) end f own = (link start class f.0 (first_own class classes end f.1), through class classes end f.1 own)

  loop_of_flat : (classes : List ℕ) → IsFlatLoop flat classes → IsAigLoop aig (map (literal_of_net aig) classes)
  loop_of_flat [] f = f
  loop_of_flat (class ∷ classes) f = through class classes class f (first_own class classes class f)

  -- and the other way
  same_net : (a b : ℕ) → even a ≡ b → net_of_literal aig a ≡ net_of_literal aig b
  same_net a b e = ap (λ n. position_or_len (λ own. own == n) (own_literals aig)) (sym (even_even a) ∙ ap even e)

  link_flat : (read written : ℕ) → AigFeeds aig read written → FlatFeeds flat (net_of_literal aig read) (net_of_literal aig written)
  link_flat read written f =
      let (k, l, is) = f.has_gate in
      let low : k < nodes_many aig flat s h = omega (arith, l, many_reads aig) in
      let gate_here : get_or aig.ands k no_gate ≡ f.gate = get_or_default aig.ands k no_gate f.gate l ∙ is in
      let reads_are : get_or (node_reads aig) k [] ≡ sides_of f.gate = gate_reads aig k no_gate l ∙ ap sides_of gate_here in
      let within : first_gate aig + k < length (own_literals aig) = omega (arith, l, literal_count aig flat s h) in
      let lit : get_or (own_literals aig) (first_gate aig + k) 0 ≡ written = gate_is k l ∙ ap (λ (g : AigAnd). g.lhs) gate_here ∙ f.writes in
      let net : net_of_literal aig written ≡ first_gate aig + k = net_is aig s (first_gate aig + k) written within (ap even (sym lit) ∙ literal_even aig s (first_gate aig + k) within) in
      record {
        node = suc k;
        is_node = omega (arith, low, node_count aig flat s h);
        reads = ⊎_elim
            (λ e. subst (Contains (in_classes flat (suc k))) (same_net f.gate.rhs0 read e) (reads_it k f.gate.rhs0 low (subst (In f.gate.rhs0) (sym reads_are) (inl refl))))
            (λ e. subst (Contains (in_classes flat (suc k))) (same_net f.gate.rhs1 read e) (reads_it k f.gate.rhs1 low (subst (In f.gate.rhs1) (sym reads_are) (inr (inl refl))))) f.reads;
        writes = out_class_is aig flat s h k low ∙ sym net;
      }

  through_flat : (start : ℕ) (lits : List ℕ) (end : ℕ) → AigFeedsThrough aig start lits end → FlatFeedsThrough flat (net_of_literal aig start) (map (net_of_literal aig) lits) (net_of_literal aig end)
  through_flat start [] end f = link_flat start end f
  through_flat start (lit ∷ lits) end f = (link_flat start lit f.0, through_flat lit lits end f.1)

  loop_is_flat : (lits : List ℕ) → IsAigLoop aig lits → IsFlatLoop flat (map (net_of_literal aig) lits)
  loop_is_flat [] f = f
  loop_is_flat (lit ∷ lits) f = through_flat lit lits lit f

  pub same_loops : HasSameLoops aig flat
  same_loops = record { of_flat = loop_of_flat; is_flat = loop_is_flat }

  -- the classes of a loop are of literals, and so no literal comes twice
  all_own : (start : ℕ) (classes : List ℕ) (end : ℕ) → FlatFeedsThrough flat start classes end → All (λ class. class < length (own_literals aig)) (start ∷ classes)
  all_own start classes end f zero d l = first_own start classes end f
  all_own start [] end f (suc k) d l = absurd (omega (arith, l))
  all_own start (class ∷ classes) end f (suc k) d l = all_own class classes end f.1 k d (omega (arith, l))

  loop_own : (classes : List ℕ) → IsFlatLoop flat classes → All (λ class. class < length (own_literals aig)) classes
  loop_own [] f = absurd f
  loop_own (class ∷ classes) f = all_own class classes class f

  apart : (classes : List ℕ) → All (λ class. class < length (own_literals aig)) classes → AllPairs (λ a b. a ≢ b) classes → AllPairs (λ a b. a ≢ b) (map (literal_of_net aig) classes)
  apart classes own simple i j d less within e =
      let low : j < length classes = omega (arith, within, length-map classes (literal_of_net aig)) in
      let a = get_or classes i 0 in
      let b = get_or classes j 0 in
      let same : literal_of_net aig a ≡ literal_of_net aig b =
      sym (get_or-map (literal_of_net aig) classes i 0 d (omega (arith, less, low))) ∙ e ∙ get_or-map (literal_of_net aig) classes j 0 d low in
      ⊎_elim
      (λ below. literals_apart aig s a b below (own j 0 low) same)
      (λ past. ⊎_elim
      (λ above. literals_apart aig s b a above (own i 0 (omega (arith, less, low))) (sym same))
      (λ before. simple i j 0 less low (let is : a ≡ b = omega (arith, past, before) in is)) (cases_lt b a)) (cases_lt a b)

  -- a loop of nets, as literals
  classes_are : (nets : List NetId) → All (IsNetId flat) nets → map (class_of flat) nets ≡ net_numbers nets
  classes_are [] a = refl
  classes_are (id ∷ nets) a =
      let here : id.0 < length flat.nets = a 0 id (omega arith) in
      ap₂ (λ (n : ℕ) ns. n ∷ ns) (class_is aig flat s h id.0 (omega (arith, here, net_count aig flat s h))) (classes_are nets (All-tail (IsNetId flat) id nets a))

  pub literals_once : (nets : List NetId) → IsNetLoop flat nets → AllPairs (λ a b. a ≢ b) (map (literal_of_net aig) (net_numbers nets))
  literals_once nets l =
      subst (λ ns. AllPairs (λ a b. a ≢ b) (map (literal_of_net aig) ns)) (classes_are nets l.are_nets) (apart (map (class_of flat) nets) (loop_own (map (class_of flat) nets) l.is_loop) l.is_simple)

  pub loop_of_nets : (nets : List NetId) → IsNetLoop flat nets → IsAigLoop aig (map (literal_of_net aig) (net_numbers nets))
  loop_of_nets nets l = subst (λ ns. IsAigLoop aig (map (literal_of_net aig) ns)) (classes_are nets l.are_nets) (loop_of_flat (map (class_of flat) nets) l.is_loop)
