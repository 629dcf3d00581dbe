-- The sources that enter the columns have the bits that enter.
use Rattle.std.proofs.Common.{◌≡◌, ◌≢◌, refl, sym, ◌∙◌, ap, ap₂, ℕ, zero, suc, ◌+◌, ◌<◌, ◌≤◌, Bool, true, false, ◌&&◌, ◌||◌, ◌==◌, ⊎_elim, List, [], ◌∷◌, ◌++◌, map, length, get_or, set, replicate, arith, get_or-set_other, get_or-set_same}
use Rattle.std.specs.Prelude.{All, AllPairs}
use Rattle.std.specs.List.{range_with_len}
use Rattle.std.proofs.lemmas.Bool.{cases_eq}
use Rattle.std.proofs.lemmas.Bool.Decides.{nat_tests}
use Rattle.std.proofs.lemmas.List.{ext_get_or, length-map, length-set, length-replicate, get_or-replicate, length-append, map-append}
use Rattle.std.proofs.lemmas.List.Elements.{All-head, All-tail}
use Rattle.std.proofs.lemmas.List.FromFn.{length-map-range_with_len, get_or-map-range_with_len}
use Rattle.std.proofs.lemmas.Simd.{map-map}
use Rattle.lane_core.specs.Entering.{first_loop_lane, lane_bit, row_bits, entry_bits}
use Rattle.lane_core.specs.declared.plan.Plan.{Plan}
use Rattle.cell_core.specs.declared.cells.Src.{Src}
use Rattle.cell_core.specs.declared.cells.Src.TheVariants.{Input, Latch, Zero}
use Rattle.cell_core.specs.Meaning.{bit_in}
use Rattle.circuit_plans.specs.Lifted.{source_on, sources_with_inputs, entry_sources}

-- the bit of a source at the entry
abbrev entry_bit : List Bool → List Bool → Src → Bool
entry_bit row state src = bit_in [] row state src

length-with_inputs : (i : ℕ) (ins : List ℕ) (sources : List Src) → length (sources_with_inputs i ins sources) ≡ length sources
length-with_inputs i [] sources = refl
length-with_inputs i (lane ∷ ins) sources = length-with_inputs (i + 1) ins (set sources lane (Input i)) ∙ length-set sources lane (Input i)

swapped : (a b c : Bool) → c ≡ false → (b || a) ≡ ((a || b) || c)
swapped true true c e = refl
swapped true false c e = refl
swapped false true c e = refl
swapped false false c e = sym e

pairs_head : (first : ℕ) (ins : List ℕ) → AllPairs (λ a b. a ≢ b) (first ∷ ins) → All (λ lane. first ≢ lane) ins
pairs_head first ins pairs k d lt = pairs 0 (suc k) d (omega arith) (omega arith)

pairs_tail : (first : ℕ) (ins : List ℕ) → AllPairs (λ a b. a ≢ b) (first ∷ ins) → AllPairs (λ a b. a ≢ b) ins
pairs_tail first ins pairs i j d order within = pairs (suc i) (suc j) d (omega arith) (omega arith)

input_at : (row state : List Bool) (i : ℕ) (ins : List ℕ) (bits : List Bool) (sources : List Src) (lane : ℕ) → lane < length sources
    → ((k : ℕ) → get_or bits k false ≡ get_or row (i + k) false) → length ins ≤ length bits
    → AllPairs (λ a b. a ≢ b) ins → All (λ l. entry_bit row state (source_on sources l) ≡ false) ins
    → entry_bit row state (source_on (sources_with_inputs i ins sources) lane) ≡ (lane_bit ins bits lane || entry_bit row state (source_on sources lane))
input_at row state i [] bits sources lane within same long apart dark = refl
input_at row state i (first ∷ ins) [] sources lane within same long apart dark = absurd (omega arith)
input_at row state i (first ∷ ins) (bit ∷ bits) sources lane within same long apart dark =
    input_at row state (i + 1) ins bits (set sources first (Input i)) lane (omega (arith, within, length-set sources first (Input i)))
    (λ k. (let at : i + suc k ≡ i + 1 + k = omega arith in same (suc k) ∙ ap (λ n. get_or row n false) at)) (omega (arith, long)) (pairs_tail first ins apart)
    (λ k d lt. (let other : first ≢ get_or ins k d = pairs_head first ins apart k d lt in
    ap (entry_bit row state) (get_or-set_other sources first (get_or ins k d) (Input i) Zero (λ e. other (sym e))) ∙ All-tail (λ l. entry_bit row state (source_on sources l) ≡ false) first ins dark k d lt))
    ∙ ⊎_elim
    (λ here. (let on : (first == lane) ≡ true = grind (arith, nat_tests) in
    let bit_is : entry_bit row state (source_on (set sources first (Input i)) lane) ≡ bit =
    ap (λ n. entry_bit row state (get_or (set sources first (Input i)) n Zero)) (sym here)
    ∙ ap (entry_bit row state) (get_or-set_same sources first (Input i) Zero (omega (arith, within)))
    ∙ (let at : i ≡ i + 0 = omega arith in ap (λ n. get_or row n false) at) ∙ sym (same 0) in
    let none : entry_bit row state (source_on sources lane) ≡ false =
    ap (λ n. entry_bit row state (source_on sources n)) (sym here) ∙ All-head (λ l. entry_bit row state (source_on sources l) ≡ false) first ins dark in
    ap (λ b. lane_bit ins bits lane || b) bit_is
    ∙ swapped bit (lane_bit ins bits lane) (entry_bit row state (source_on sources lane)) none
    ∙ ap (λ b. ((b && bit) || lane_bit ins bits lane) || entry_bit row state (source_on sources lane)) (sym on)))
    (λ away. (let off : (first == lane) ≡ false = grind (arith, nat_tests) in
    ap (λ s. lane_bit ins bits lane || entry_bit row state s) (get_or-set_other sources first lane (Input i) Zero (λ e. away (sym e)))
    ∙ ap (λ b. ((b && bit) || lane_bit ins bits lane) || entry_bit row state (source_on sources lane)) (sym off)))
    (cases_eq first lane)

bit_of_source : (row state : List Bool) (sources : List Src) (lane : ℕ) → get_or (map (entry_bit row state) sources) lane false ≡ entry_bit row state (source_on sources lane)
bit_of_source row state [] lane = refl
bit_of_source row state (s ∷ sources) zero = refl
bit_of_source row state (s ∷ sources) (suc lane) = bit_of_source row state sources lane

pub inputs_enter : (row state : List Bool) (free : ℕ) (ins : List ℕ) → length row ≡ length ins → AllPairs (λ a b. a ≢ b) ins → All (λ lane. lane < free) ins
    → map (entry_bit row state) (sources_with_inputs 0 ins (replicate free Zero)) ≡ row_bits free ins row
inputs_enter row state free ins long apart below =
    let sources = sources_with_inputs 0 ins (replicate free Zero) in
    let wide : length sources ≡ free = length-with_inputs 0 ins (replicate free Zero) ∙ length-replicate free Zero in
    let many : length (map (entry_bit row state) sources) ≡ length sources = length-map sources (entry_bit row state) in
    ext_get_or false (map (entry_bit row state) sources) (row_bits free ins row) (many ∙ wide ∙ sym (length-map-range_with_len (lane_bit ins row) 0 free))
    (λ lane lt. (let low : lane < free = omega (arith, lt, many, wide) in
    let zero_at : source_on (replicate free Zero) lane ≡ Zero = get_or-replicate free lane Zero Zero low in
    bit_of_source row state sources lane
    ∙ input_at row state 0 ins row (replicate free Zero) lane (omega (arith, low, length-replicate free Zero)) (λ k. (let at : k ≡ 0 + k = omega arith in ap (λ n. get_or row n false) at)) (omega (arith, long)) apart
    (λ k d within. ap (entry_bit row state) (get_or-replicate free (get_or ins k d) Zero Zero (below k d within)))
    ∙ ap (λ s. lane_bit ins row lane || entry_bit row state s) zero_at
    ∙ or_dark (lane_bit ins row lane)
    ∙ sym (get_or-map-range_with_len (lane_bit ins row) 0 free lane lane false low (omega arith))))
  where
    or_dark : (b : Bool) → (b || false) ≡ b
    or_dark true = refl
    or_dark false = refl

loops_enter : (row state : List Bool) (loops : ℕ) → length state ≡ loops → map (entry_bit row state) (map Latch (range_with_len 0 loops)) ≡ state
loops_enter row state loops long =
    map-map (entry_bit row state) Latch (range_with_len 0 loops)
    ∙ ext_get_or false (map (λ n. get_or state n false) (range_with_len 0 loops)) state (length-map-range_with_len (λ n. get_or state n false) 0 loops ∙ sym long)
    (λ n lt. get_or-map-range_with_len (λ m. get_or state m false) 0 loops n n false (omega (arith, lt, length-map-range_with_len (λ m. get_or state m false) 0 loops)) (omega arith))

-- all lanes
pub entry_is : (plan : Plan) (row state : List Bool) → length row ≡ length plan.ins → length state ≡ plan.latches
    → AllPairs (λ a b. a ≢ b) plan.ins → All (λ lane. lane < first_loop_lane plan.lanes plan.latches) plan.ins
    → map (bit_in [] row state) (entry_sources plan) ≡ entry_bits (first_loop_lane plan.lanes plan.latches) plan.ins row state
entry_is plan row state long loops apart below =
    let free = first_loop_lane plan.lanes plan.latches in
    map-append (entry_bit row state) (sources_with_inputs 0 plan.ins (replicate (first_loop_lane plan.lanes plan.latches) Zero)) (map Latch (range_with_len 0 plan.latches))
    ∙ ap₂ (λ a b. a ++ b) (inputs_enter row state (first_loop_lane plan.lanes plan.latches) plan.ins long apart below) (loops_enter row state plan.latches loops)

pub length-entry_sources : (plan : Plan) → length (entry_sources plan) ≡ first_loop_lane plan.lanes plan.latches + plan.latches
length-entry_sources plan =
    let free = first_loop_lane plan.lanes plan.latches in
    let first : length (sources_with_inputs 0 plan.ins (replicate (first_loop_lane plan.lanes plan.latches) Zero)) ≡ first_loop_lane plan.lanes plan.latches =
    length-with_inputs 0 plan.ins (replicate (first_loop_lane plan.lanes plan.latches) Zero) ∙ length-replicate (first_loop_lane plan.lanes plan.latches) Zero in
    let last : length (map Latch (range_with_len 0 plan.latches)) ≡ plan.latches = length-map-range_with_len Latch 0 plan.latches in
    simp length-append (omega (arith, first, last))
