-- Where the plan of a circuit has no loop.
use Rattle.std.proofs.Common.{◌≡◌, refl, sym, ◌∙◌, ap, subst, ℕ, zero, suc, ◌+◌, ◌*◌, ◌≤◌, ◌==◌, Bool, false, List, [], ◌∷◌, ◌++◌, map, length, replicate, arith, inl, inr, ⊎_elim}
use Rattle.std.specs.Prelude.{sum_by}
use Rattle.std.specs.List.{list_any}
use Rattle.std.proofs.lemmas.List.{length-map, length-replicate, nil_from_length}
use Rattle.std.proofs.lemmas.List.Sums.{sum_by-cons, count_by-le-length}
use Rattle.lists.proofs.Members.{In, in_parts, in_mapped}
use Rattle.lane_core.specs.declared.plan.Plan.{Plan}
use Rattle.lane_core.specs.Plans.{period_of}
use Rattle.netlist_core.specs.OwnWeight.{literals, rows_weight}
use Rattle.netlist_core.specs.declared.flat.Node.{Node}
use Rattle.netlist_core.specs.declared.flat.Flat.{Flat}
use Rattle.netlist_meaning.specs.FlatOrder.{IsOrder}
use Rattle.netlist_meaning.specs.FlatValuation.{IsFlatValuation, flat_output_bits}
use Rattle.cell_meaning.specs.Needs.{covers_weight}
use Rattle.cover_mapper.specs.Sourced.{node_cells, most_cells_of}
use Rattle.netlist_plans.specs.Lists.{IsPlanned}
use Rattle.netlist_plans.specs.Sparing.{SparesOne}
use Rattle.netlist_plans.proofs.Sparing.{any_of, outputs_are, outs_zero, loopless}
use Rattle.aiger_text.specs.declared.aig.AigLatch.{AigLatch}
use Rattle.aiger_text.specs.declared.aig.Aig.{Aig}
use Rattle.aiger_text.specs.SoundAig.{sides_of, IsSoundAig}
use Rattle.aiger_meaning.specs.Circuit.{AreAigRows, IsAigValuation, aig_start_bits}
use Rattle.aiger_meaning.specs.FlatOf.{zero_node, node_of, nodes_from, node_reads, row_character, buffer, first_gate, IsFlatOfAig}
use Rattle.aiger_meaning.specs.Lowered.{IsLowered}
use Rattle.aiger_meaning.proofs.View.{in_count, latch_count}
use Rattle.aiger_plans.specs.CarriesAig.{CarriesAig}
use Rattle.aiger_plans.specs.Zero.{bit_at_zero, some_output_is_one}
use Rattle.aiger_plans.proofs.Zeros.{bits_at_zero_are_meant}

-- ---- the covers take few cells
node_light : (aig : Aig) (lits : List ℕ) (n : ℕ) → length lits ≤ 2 → node_cells (node_of aig lits n) ≤ rows_weight (node_of aig lits n).rows
node_light aig lits n few =
    let row = map row_character lits in
    let some : literals row ≤ length row = count_by-le-length _ row in
    let long = length-map lits row_character in
    let cells : node_cells (node_of aig lits n) ≡ 2 * sum_by literals (row ∷ []) = refl in
    let one : sum_by literals (row ∷ []) ≡ literals row + 0 = sum_by-cons literals row [] in
    omega (arith, some, long, few, cells, one)

AreShort : List (List ℕ) → Type 0
AreShort reads = (lits : List ℕ) → In lits reads → length lits ≤ 2

nodes_light : (aig : Aig) (n : ℕ) (reads : List (List ℕ)) → AreShort reads → sum_by node_cells (nodes_from aig n reads) ≤ sum_by (λ (node : Node). rows_weight node.rows) (nodes_from aig n reads)
unfolding AreShort
nodes_light aig n [] short = omega arith
nodes_light aig n (lits ∷ reads) short =
    let cells = sum_by-cons node_cells (node_of aig lits n) (nodes_from aig (suc n) reads) in
    let weight = sum_by-cons (λ (node : Node). rows_weight node.rows) (node_of aig lits n) (nodes_from aig (suc n) reads) in
    let here = node_light aig lits n (short lits (inl refl)) in
    let rest = nodes_light aig (suc n) reads (λ l i. short l (inr i)) in
    omega (arith, cells, weight, here, rest)

all_short : (aig : Aig) → AreShort (node_reads aig)
unfolding AreShort
all_short aig lits i =
    let buffers = map (λ (latch : AigLatch). latch.next) aig.latches ++ aig.outputs in
    ⊎_elim
    (λ g. let r = in_mapped sides_of aig.ands lits g in let e : length lits ≡ 2 = ap (λ (l : List ℕ). length l) r.2 in omega (arith, e))
    (λ b. let r = in_mapped buffer buffers lits b in let e : length lits ≡ 1 = ap (λ (l : List ℕ). length l) r.2 in omega (arith, e))
    (in_parts (map sides_of aig.ands) (map buffer buffers) lits i)

light : (aig : Aig) (flat : Flat) → IsFlatOfAig aig flat → most_cells_of flat ≤ covers_weight flat
light aig flat h =
    let nodes = nodes_from aig (first_gate aig) (node_reads aig) in
    let cells : most_cells_of flat ≡ node_cells zero_node + sum_by node_cells nodes = ap (sum_by node_cells) h.nodes ∙ sum_by-cons node_cells zero_node nodes in
    let weight : covers_weight flat ≡ rows_weight zero_node.rows + sum_by (λ (node : Node). rows_weight node.rows) nodes =
    ap (sum_by (λ (node : Node). rows_weight node.rows)) h.nodes ∙ sum_by-cons (λ (node : Node). rows_weight node.rows) zero_node nodes in
    let first : node_cells zero_node ≡ 0 = refl in
    let rest = nodes_light aig (first_gate aig) (node_reads aig) (all_short aig) in
    omega (arith, cells, weight, first, rest)

-- ---- what the netlist has while all inputs are 0
module _ (aig : Aig) (flat : Flat) (order : List ℕ) (s : IsSoundAig aig) (h : IsFlatOfAig aig flat) (lowered : IsLowered aig flat) (o : IsOrder flat order) (none : length aig.latches ≡ 0) where
  abbrev zeros : List Bool
  zeros = replicate (length aig.inputs) false

  -- the netlist has a valuation, and its outputs have the computed bits
  record HasZeros : Type 0 where
    pub bits : ℕ → Bool
    pub solves : IsFlatValuation flat (replicate (length flat.ins) false) [] bits
    pub same : list_any (λ bit. bit) (flat_output_bits flat bits) ≡ some_output_is_one aig

  has_zeros : {text : List ℕ} → CarriesAig text aig → HasZeros
  has_zeros c =
      let rows : List (List Bool) = zeros ∷ [] in
      let are : AreAigRows aig rows = one_row in
      let run = c.shows.runs rows are in
      let start : aig_start_bits aig ≡ [] = nil_from_length _ (length-map aig.latches (λ (latch : AigLatch). latch.reset == 1) ∙ none) in
      let v : IsAigValuation aig zeros [] (run.0 0) = subst (λ state. IsAigValuation aig zeros state (run.0 0)) start (run.1 0 zeros refl) in
      let found = lowered.is_flat zeros [] (run.0 0) v in
      record {
        bits = found.0;
        solves = subst (λ n. IsFlatValuation flat (replicate n false) [] found.0) (sym (in_count aig flat s h)) found.1;
        same = ap (list_any (λ bit. bit)) (found.2.outputs ∙ sym (bits_at_zero_are_meant aig flat order s h o (run.0 0) v))
            ∙ any_of (λ bit. bit) (bit_at_zero aig (length aig.ands)) (bit_at_zero aig (length aig.ands)) (λ lit. refl) aig.outputs;
      }
    where
      one_row : AreAigRows aig (zeros ∷ [])
      one_row zero d lt = length-replicate (length aig.inputs) false
      one_row (suc k) d lt = absurd (omega (arith, lt))

  pub spares_one : {text : List ℕ} → some_output_is_one aig ≡ false → CarriesAig text aig → SparesOne flat
  spares_one e c =
      let z = has_zeros c in
      record { latches = latch_count aig flat s h ∙ none; unlisted = lowered.unlisted; few = light aig flat h; bits = z.bits; solves = z.solves; zero = z.same ∙ e }

  pub no_output_is_one : {text : List ℕ} (plan : Plan) → IsPlanned flat plan → period_of plan ≡ 32 → CarriesAig text aig → some_output_is_one aig ≡ false
  no_output_is_one plan planned short c =
      let z = has_zeros c in
      let list = planned.list in
      sym z.same ∙ sym (outputs_are flat list z.bits (planned.computes.bits _ [] z.bits z.solves)) ∙ outs_zero list (loopless list plan short planned.is.computes.loops)
