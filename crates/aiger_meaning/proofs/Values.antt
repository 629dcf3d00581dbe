-- Bits for literals and for nets, where they are the same.
use Rattle.std.proofs.Common.{ℕ, suc, ◌+◌, ◌<◌, ◌≤◌, ◌^◌, ◌≡◌, inl, inr, refl, sym, ap, ap₂, ◌∙◌, Bool, true, false, not, ◌&&◌, List, [], ◌∷◌, ◌++◌, map, length, get_or, length-append, arith}
use Rattle.std.specs.List.{list_all}
use Rattle.std.proofs.Math.Bool.{or-false}
use Rattle.std.proofs.lemmas.List.{get_or-append-add, get_or_append_left, get_or-map, length-map, same_lists}
use Rattle.lists.proofs.Members.{In}
use Rattle.netlist_core.specs.declared.flat.FlatPort.{FlatPort}
use Rattle.netlist_core.specs.declared.flat.FlatLatch.{FlatLatch}
use Rattle.netlist_core.specs.declared.flat.NetId.{NetId}
use Rattle.netlist_core.specs.declared.flat.Node.{Node}
use Rattle.netlist_core.specs.declared.flat.Flat.{Flat}
use Rattle.netlist_meaning.specs.CoverValue.{fits, product_holds, cover_value}
use Rattle.netlist_meaning.specs.Flat.{class_of}
use Rattle.netlist_meaning.specs.FlatValuation.{node_value}
use Rattle.aiger_text.specs.declared.aig.AigLatch.{AigLatch}
use Rattle.aiger_text.specs.declared.aig.AigAnd.{AigAnd}
use Rattle.aiger_text.specs.declared.aig.Aig.{Aig}
use Rattle.aiger_text.specs.SoundAig.{IsSoundAig}
use Rattle.aiger_meaning.specs.Circuit.{aig_weight}
use Rattle.aiger_meaning.specs.FlatOf.{own_literals, net_of_literal, net_id, node_reads, row_character, first_gate, first_buffer, first_output, latch_between, port_at, IsFlatOfAig}
use Rattle.aiger_meaning.specs.Lowered.{AreSameCycle}
use Rattle.aiger_meaning.proofs.NetLists.{HasNet}
use Rattle.aiger_meaning.proofs.View.{class_is, port_is, node_at_is, in_count, out_count, latch_count, literal_count, count_is, nodes_many}
use Rattle.aiger_meaning.proofs.Within.{latch_at, no_latch, node_has}

abbrev pub nexts_of : Aig → List ℕ
nexts_of aig = map (λ (latch : AigLatch). latch.next) aig.latches

abbrev pub own_of : Aig → List ℕ
own_of aig = map (λ (latch : AigLatch). latch.lit) aig.latches

abbrev pub sides : Aig → List ℕ
sides aig = map (λ (gate : AigAnd). gate.lhs) aig.ands

-- the literal of each net, those of buffers too
abbrev pub net_literal : Aig → ℕ → ℕ
net_literal aig k = get_or (own_literals aig ++ (nexts_of aig ++ aig.outputs)) k 0

many_own : (aig : Aig) → length (own_of aig) ≡ length aig.latches
many_own aig = length-map aig.latches (λ (latch : AigLatch). latch.lit)

many_nexts : (aig : Aig) → length (nexts_of aig) ≡ length aig.latches
many_nexts aig = length-map aig.latches (λ (latch : AigLatch). latch.next)

many_first : (aig : Aig) → length (aig.inputs ++ own_of aig) ≡ length aig.inputs + length aig.latches
many_first aig = length-append aig.inputs (own_of aig) ∙ ap (λ n. length aig.inputs + n) (many_own aig)

-- among the literals
pub defined_literal : (aig : Aig) (k : ℕ) → k < length (own_literals aig) → net_literal aig k ≡ get_or (own_literals aig) k 0
defined_literal aig k l = get_or_append_left (own_literals aig) (nexts_of aig ++ aig.outputs) 0 k l

pub input_literal : (aig : Aig) (k : ℕ) → k < length aig.inputs → get_or (own_literals aig) (1 + k) 0 ≡ get_or aig.inputs k 0
input_literal aig k l =
    ap (λ n. get_or (own_literals aig) n 0) (let e : 1 + k ≡ suc k = omega arith in e)
    ∙ get_or_append_left (aig.inputs ++ own_of aig) (sides aig) 0 k (omega (arith, l, many_first aig)) ∙ get_or_append_left aig.inputs (own_of aig) 0 k l

pub latch_literal : (aig : Aig) (k : ℕ) → k < length aig.latches → get_or (own_literals aig) (1 + length aig.inputs + k) 0 ≡ get_or (own_of aig) k 0
latch_literal aig k l =
    ap (λ n. get_or (own_literals aig) n 0) (let e : 1 + length aig.inputs + k ≡ suc (length aig.inputs + k) = omega arith in e)
    ∙ get_or_append_left (aig.inputs ++ own_of aig) (sides aig) 0 (length aig.inputs + k) (omega (arith, l, many_first aig)) ∙ get_or-append-add aig.inputs (own_of aig) k 0

pub gate_literal : (aig : Aig) (k : ℕ) → get_or (own_literals aig) (first_gate aig + k) 0 ≡ get_or (sides aig) k 0
gate_literal aig k =
    ap (λ n. get_or (own_literals aig) n 0) (let e : first_gate aig + k ≡ suc (length (aig.inputs ++ own_of aig) + k) = omega (arith, many_first aig) in e)
    ∙ get_or-append-add (aig.inputs ++ own_of aig) (sides aig) k 0

-- a row's product is that of the literals
pub fits_one : (b : Bool) → fits 49 b ≡ b
fits_one true = refl
fits_one false = refl

pub fits_zero : (b : Bool) → fits 48 b ≡ not b
fits_zero true = refl
fits_zero false = refl

module _ (aig : Aig) (flat : Flat) (s : IsSoundAig aig) (small : aig_weight aig < 2 ^ 31) (h : IsFlatOfAig aig flat) where
  pub buffer_literal : (k : ℕ) → net_literal aig (first_buffer aig + k) ≡ get_or (nexts_of aig ++ aig.outputs) k 0
  buffer_literal k =
      ap (net_literal aig) (let e : first_buffer aig + k ≡ length (own_literals aig) + k = omega (arith, literal_count aig flat s h) in e)
      ∙ get_or-append-add (own_literals aig) (nexts_of aig ++ aig.outputs) k 0

  pub next_literal : (k : ℕ) → k < length aig.latches → net_literal aig (first_buffer aig + k) ≡ get_or (nexts_of aig) k 0
  next_literal k l = buffer_literal k ∙ get_or_append_left (nexts_of aig) aig.outputs 0 k (omega (arith, l, many_nexts aig))

  pub output_literal : (k : ℕ) → net_literal aig (first_output aig + k) ≡ get_or aig.outputs k 0
  output_literal k =
      ap (net_literal aig) (let e : first_output aig + k ≡ first_buffer aig + (length (nexts_of aig) + k) = omega (arith, many_nexts aig) in e)
      ∙ buffer_literal (length (nexts_of aig) + k)
      ∙ get_or-append-add (nexts_of aig) aig.outputs k 0

  -- a row's characters take the bits of nets just where literals are 1
  abbrev pub FitsAll : (f bits : ℕ → Bool) → Type 0
  FitsAll f bits = (lit : ℕ) → HasNet aig lit → fits (row_character lit) (f (net_of_literal aig lit)) ≡ bits lit

  -- the two are the same
  pub record Agrees (f bits : ℕ → Bool) : Type 0 where
    pub fits_is : FitsAll f bits
    pub nets_are : (k : ℕ) → k < first_gate aig + nodes_many aig flat s h → f k ≡ bits (net_literal aig k)

  -- a node's value
  product_is : (f bits : ℕ → Bool) → FitsAll f bits → (lits : List ℕ) → ((lit : ℕ) → In lit lits → HasNet aig lit)
      → product_holds (map row_character lits) (map (λ (id : NetId). f (class_of flat id)) (map (λ lit. net_id (net_of_literal aig lit)) lits)) ≡ list_all bits lits
  product_is f bits a [] has = refl
  product_is f bits a (lit ∷ lits) has =
      let here = has lit (inl refl) in
      let class : class_of flat (net_id (net_of_literal aig lit)) ≡ net_of_literal aig lit = class_is aig flat s h (net_of_literal aig lit) (omega (arith, here.within, literal_count aig flat s h, count_is aig flat s h)) in
      ap₂ (λ x y. x && y) (ap (λ n. fits (row_character lit) (f n)) class ∙ a lit here) (product_is f bits a lits (λ l i. has l (inr i)))

  pub value_is : (f bits : ℕ → Bool) → FitsAll f bits → (k : ℕ) → k < nodes_many aig flat s h → node_value flat f (suc k) ≡ list_all bits (get_or (node_reads aig) k [])
  value_is f bits a k l =
      ap (λ (node : Node). cover_value node.rows node.on (map (λ (id : NetId). f (class_of flat id)) node.ins)) (node_at_is aig flat s h k l)
      ∙ or-false _
      ∙ product_is f bits a (get_or (node_reads aig) k []) (node_has aig s k l)

  -- ports and latches have the bits of their literals
  ports_are : (f bits : ℕ → Bool) → Agrees f bits → (ports : List FlatPort) (net count : ℕ) (lits : List ℕ) → ((k : ℕ) → k < count → get_or ports k (port_at 0) ≡ port_at (net + k)) → length ports ≡ count → length lits ≡ count
      → net + count ≤ first_gate aig + nodes_many aig flat s h → ((k : ℕ) → k < count → net_literal aig (net + k) ≡ get_or lits k 0) → map (λ (port : FlatPort). f (class_of flat port.net)) ports ≡ map bits lits
  ports_are f bits a ports net count lits at many long within are =
      let left = length-map ports (λ (port : FlatPort). f (class_of flat port.net)) in
      same_lists _ (map bits lits) (left ∙ many ∙ sym long ∙ sym (length-map lits bits)) (λ k d l.
      let low : k < count = omega (arith, l, left, many) in
      get_or-map (λ (port : FlatPort). f (class_of flat port.net)) ports k (port_at 0) d (omega (arith, low, many))
      ∙ ap (λ (port : FlatPort). f (class_of flat port.net)) (at k low)
      ∙ ap f (class_is aig flat s h (net + k) (omega (arith, low, within)))
      ∙ a.nets_are (net + k) (omega (arith, low, within))
      ∙ ap bits (are k low)
      ∙ sym (get_or-map bits lits k 0 d (omega (arith, low, long))))

  pub ins_are : (f bits : ℕ → Bool) → Agrees f bits → map (λ (port : FlatPort). f (class_of flat port.net)) flat.ins ≡ map bits aig.inputs
  ins_are f bits a =
      ports_are f bits a flat.ins 1 (length aig.inputs) aig.inputs (λ k l. ap (λ (ps : List FlatPort). get_or ps k (port_at 0)) h.ins ∙ port_is 1 (length aig.inputs) k (port_at 0) l) (in_count aig flat s h) refl (omega arith)
      (λ k l. defined_literal aig (1 + k) (omega (arith, l, literal_count aig flat s h)) ∙ input_literal aig k l)

  outs_are : (f bits : ℕ → Bool) → Agrees f bits → map (λ (port : FlatPort). f (class_of flat port.net)) flat.outs ≡ map bits aig.outputs
  outs_are f bits a =
      ports_are f bits a flat.outs (first_output aig) (length aig.outputs) aig.outputs (λ k l. ap (λ (ps : List FlatPort). get_or ps k (port_at 0)) h.outs ∙ port_is (first_output aig) (length aig.outputs) k (port_at 0) l) (out_count aig flat s h) refl
      (omega (arith, count_is aig flat s h)) (λ k l. output_literal k)

  latches_with : (f bits : ℕ → Bool) → Agrees f bits → (end : FlatLatch → NetId) (read : AigLatch → ℕ) (net : ℕ) → ((k : ℕ) → k < length aig.latches → end (latch_between (first_buffer aig + k) (1 + length aig.inputs + k) (get_or aig.latches k no_latch)) ≡ net_id (net + k))
      → net + length aig.latches ≤ first_gate aig + nodes_many aig flat s h → ((k : ℕ) → k < length aig.latches → net_literal aig (net + k) ≡ get_or (map read aig.latches) k 0)
      → map (λ (latch : FlatLatch). f (class_of flat (end latch))) flat.latches ≡ map (λ (latch : AigLatch). bits (read latch)) aig.latches
  latches_with f bits a end read net at within are =
      let left = length-map flat.latches (λ (latch : FlatLatch). f (class_of flat (end latch))) in
      same_lists _ (map (λ (latch : AigLatch). bits (read latch)) aig.latches) (left ∙ latch_count aig flat s h ∙ sym (length-map aig.latches (λ (latch : AigLatch). bits (read latch)))) (λ k d l.
      let low : k < length aig.latches = omega (arith, l, left, latch_count aig flat s h) in
      let there : k < length flat.latches = omega (arith, l, left) in
      get_or-map (λ (latch : FlatLatch). f (class_of flat (end latch))) flat.latches k (latch_between 0 0 no_latch) d there
      ∙ ap (λ (latch : FlatLatch). f (class_of flat (end latch))) (latch_at aig flat s small h k (latch_between 0 0 no_latch) there)
      ∙ ap (λ id. f (class_of flat id)) (at k low)
      ∙ ap f (class_is aig flat s h (net + k) (omega (arith, low, within)))
      ∙ a.nets_are (net + k) (omega (arith, low, within))
      ∙ ap bits (are k low ∙ get_or-map read aig.latches k no_latch 0 low)
      ∙ sym (get_or-map (λ (latch : AigLatch). bits (read latch)) aig.latches k no_latch d low))

  pub latches_are : (f bits : ℕ → Bool) → Agrees f bits → map (λ (latch : FlatLatch). f (class_of flat latch.output)) flat.latches ≡ map (λ (latch : AigLatch). bits latch.lit) aig.latches
  latches_are f bits a =
      latches_with f bits a (λ latch. latch.output) (λ latch. latch.lit) (1 + length aig.inputs) (λ k l. refl) (omega arith)
      (λ k l. defined_literal aig (1 + length aig.inputs + k) (omega (arith, l, literal_count aig flat s h)) ∙ latch_literal aig k l)

  nexts_are : (f bits : ℕ → Bool) → Agrees f bits → map (λ (latch : FlatLatch). f (class_of flat latch.input)) flat.latches ≡ map (λ (latch : AigLatch). bits latch.next) aig.latches
  nexts_are f bits a =
      latches_with f bits a (λ latch. latch.input) (λ latch. latch.next) (first_buffer aig) (λ k l. refl) (omega (arith, count_is aig flat s h)) (λ k l. next_literal k l)

  pub same_cycle : (f bits : ℕ → Bool) → Agrees f bits → AreSameCycle aig flat bits f
  same_cycle f bits a = record { outputs = outs_are f bits a; next = nexts_are f bits a }
