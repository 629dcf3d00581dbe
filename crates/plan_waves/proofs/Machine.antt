-- A plan is a machine: its cycles, counted from any macro time on.
use Rattle.std.proofs.Common.{◌≡◌, refl, sym, ◌∙◌, ap, ap₂, ℕ, zero, suc, ◌+◌, ◌-◌, ◌*◌, ◌<◌, ◌≤◌, Bool, false, ⊎_elim, List, [], ◌∷◌, ◌++◌, length, get_or, take, drop, reverse, arith}
use Rattle.std.proofs.lemmas.Bool.{cases_lt}
use Rattle.std.proofs.lemmas.List.{ext_get_or, get_or_append_left, get_or-append_right, get_or-reverse, get_or-drop, length-reverse, length-drop, length-append}
use Rattle.std.proofs.lemmas.List.FromFn.{length-map-range_with_len, get_or-map-range_with_len}
use Rattle.std.proofs.Math.Nat.{suc-mul}
use Rattle.tiling.specs.Tiling.{Lit}
use Rattle.tiling.specs.Tiling.Edge.{Beside}
use Rattle.lane_core.specs.declared.instr.Column.{Column}
use Rattle.lane_core.specs.declared.plan.Plan.{Plan}
use Rattle.lane_core.specs.Instrs.{bit_on}
use Rattle.lane_core.specs.Columns.{after_column, after_columns}
use Rattle.lane_core.specs.Plans.{IsAdmissible}
use Rattle.lane_core.specs.Entering.{first_loop_lane, entering_bits}
use Rattle.lane_core.specs.Tape.{cycle_tiles}
use Rattle.plan_waves.specs.Waves.{GoesOn, bits_at, loop_entry, tiles_back}
use Rattle.plan_waves.specs.Cycles.{free_bits, loop_bits}
use Rattle.plan_waves.proofs.Columns.{length-bits_at, bit_on-bits_at, columns_pass}
use Rattle.plan_waves.proofs.CycleTiles.{tiles_with_loops}
use Rattle.plan_waves.proofs.Loops.{loops_come_round}
use Rattle.lane_core.proofs.Lengths.{length-after_instrs}

pub length-after_columns : (columns : List Column) (bits : List Bool) → length (after_columns columns bits) ≡ length bits
length-after_columns [] bits = refl
length-after_columns (c ∷ cs) bits = length-after_columns cs (after_column bits c) ∙ length-after_instrs c.instrs bits

-- two lists one after the other, at a place of the first and of the second
front_of : (xs ys : List Bool) (n l : ℕ) → length xs ≡ n → l < n → get_or (xs ++ ys) l false ≡ get_or xs l false
front_of xs ys n l long low = get_or_append_left xs ys false l (omega arith)

-- the lanes of loops in reverse order
turned_round : (bits : List Bool) (lanes loops loop : ℕ) → length bits ≡ lanes → loops ≤ lanes → loop < loops
    → get_or (reverse (drop (lanes - loops) bits)) loop false ≡ bit_on bits (lanes - 1 - loop)
turned_round bits lanes loops loop long fit inside =
    let count : length (drop (lanes - loops) bits) ≡ loops = omega (arith, length-drop (lanes - loops) bits) in
    let place : lanes - loops + (length (drop (lanes - loops) bits) - 1 - loop) ≡ lanes - 1 - loop = omega (arith, count) in
    get_or-reverse (drop (lanes - loops) bits) loop false (omega (arith, count))
    ∙ get_or-drop (lanes - loops) bits (length (drop (lanes - loops) bits) - 1 - loop) false
    ∙ ap (bit_on bits) place

-- the bits that enter the body are those on free lanes and those on lanes of loops
pub both_bits : (plan : Plan) (lit : Lit) (l : ℕ) → l < plan.lanes → bit_on (bits_at plan 0 lit) l ≡ lit (Beside plan.latches l)
both_bits plan lit l low =
    let column : plan.latches + 0 ≡ plan.latches = omega arith in
    bit_on-bits_at plan 0 lit l low ∙ ap (λ q. lit (Beside q l)) column

length-entering : (plan : Plan) → IsAdmissible plan → (inputs : ℕ → List Bool) (starts : List Bool) → ((t : ℕ) → length (inputs t) ≡ first_loop_lane plan.lanes plan.latches) → length starts ≡ plan.latches
    → (t : ℕ) → length (entering_bits (first_loop_lane plan.lanes plan.latches) plan.columns inputs starts t) ≡ plan.lanes
length-entering plan h inputs starts wide long zero =
    omega (arith, length-append (inputs zero) starts, wide zero, long, h.size.loops_on_lanes)
length-entering plan h inputs starts wide long (suc t) =
    let out = after_columns plan.columns (entering_bits (first_loop_lane plan.lanes plan.latches) plan.columns inputs starts t) in
    let back = drop (first_loop_lane plan.lanes plan.latches) out in
    omega (arith, length-append (inputs (suc t)) (reverse back), wide (suc t), length-reverse back, length-drop (first_loop_lane plan.lanes plan.latches) out, length-after_columns plan.columns (entering_bits (first_loop_lane plan.lanes plan.latches) plan.columns inputs starts t), length-entering plan h inputs starts wide long t, h.size.loops_on_lanes)

-- the bits that enter the body at the beginning of a cycle
entering : (plan : Plan) → IsAdmissible plan → (edges : ℕ → Lit) → GoesOn plan edges → (first t : ℕ)
    → bits_at plan 0 (edges (first + t * cycle_tiles plan))
    ≡ entering_bits (first_loop_lane plan.lanes plan.latches) plan.columns (λ i. free_bits plan (edges (first + i * cycle_tiles plan))) (loop_bits plan (edges first)) t
entering plan h edges g first = go
  where
    fits : plan.latches ≤ plan.lanes
    fits = h.size.loops_on_lanes

    inputs : ℕ → List Bool
    inputs i = free_bits plan (edges (first + i * cycle_tiles plan))

    starts : List Bool
    starts = loop_bits plan (edges first)

    wide : (t : ℕ) → length (inputs t) ≡ first_loop_lane plan.lanes plan.latches
    wide t = length-map-range_with_len (λ lane. edges (first + t * cycle_tiles plan) (Beside plan.latches lane)) 0 (first_loop_lane plan.lanes plan.latches)

    long : length starts ≡ plan.latches
    long = length-map-range_with_len (λ loop. edges first (loop_entry plan loop)) 0 plan.latches

    same_lengths : (t : ℕ) → length (bits_at plan 0 (edges (first + t * cycle_tiles plan))) ≡ length (entering_bits (first_loop_lane plan.lanes plan.latches) plan.columns inputs starts t)
    same_lengths t = length-bits_at plan 0 (edges (first + t * cycle_tiles plan)) ∙ sym (length-entering plan h inputs starts wide long t)

    -- on a free lane
    free : (t l : ℕ) (rest : List Bool) → l < first_loop_lane plan.lanes plan.latches → bit_on (bits_at plan 0 (edges (first + t * cycle_tiles plan))) l ≡ get_or (inputs t ++ rest) l false
    free t l rest low =
        both_bits plan (edges (first + t * cycle_tiles plan)) l (omega arith)
        ∙ sym (get_or-map-range_with_len (λ lane. edges (first + t * cycle_tiles plan) (Beside plan.latches lane)) 0 (first_loop_lane plan.lanes plan.latches) l l false low (omega arith))
        ∙ sym (front_of (inputs t) rest (first_loop_lane plan.lanes plan.latches) l (wide t) low)

    -- on a loop's lane, at first
    start : (l : ℕ) → first_loop_lane plan.lanes plan.latches ≤ l → l < plan.lanes → bit_on (bits_at plan 0 (edges (first + 0 * cycle_tiles plan))) l ≡ get_or (inputs 0 ++ starts) l false
    start l high low =
        let loop = l - first_loop_lane plan.lanes plan.latches in
        let now : first + 0 * cycle_tiles plan ≡ first = omega arith in
        let lane : l ≡ first_loop_lane plan.lanes plan.latches + loop = omega arith in
        both_bits plan (edges (first + 0 * cycle_tiles plan)) l low
        ∙ ap₂ (λ m n. edges m (Beside plan.latches n)) now lane
        ∙ sym (get_or-map-range_with_len (λ s. edges first (loop_entry plan s)) 0 plan.latches loop loop false (omega arith) (omega arith))
        ∙ sym (get_or-append_right (inputs 0) starts (first_loop_lane plan.lanes plan.latches) l false (wide 0) high)

    -- and in each later cycle
    later : (t l : ℕ) → bits_at plan 0 (edges (first + t * cycle_tiles plan)) ≡ entering_bits (first_loop_lane plan.lanes plan.latches) plan.columns inputs starts t → first_loop_lane plan.lanes plan.latches ≤ l → l < plan.lanes
        → bit_on (bits_at plan 0 (edges (first + suc t * cycle_tiles plan))) l ≡ get_or (entering_bits (first_loop_lane plan.lanes plan.latches) plan.columns inputs starts (suc t)) l false
    later t l before high low =
        let loop = l - first_loop_lane plan.lanes plan.latches in
        let now : first + suc t * cycle_tiles plan ≡ first + t * cycle_tiles plan + (length plan.columns + tiles_back plan) = omega (arith, suc-mul t (cycle_tiles plan), tiles_with_loops plan (omega arith)) in
        let lane : l ≡ first_loop_lane plan.lanes plan.latches + loop = omega arith in
        let out = after_columns plan.columns (entering_bits (first_loop_lane plan.lanes plan.latches) plan.columns inputs starts t) in
        both_bits plan (edges (first + suc t * cycle_tiles plan)) l low
        ∙ ap₂ (λ m n. edges m (Beside plan.latches n)) now lane
        ∙ loops_come_round plan h edges g (first + t * cycle_tiles plan) loop (omega arith)
        ∙ ap (λ bits. bit_on (after_columns plan.columns bits) (plan.lanes - 1 - loop)) before
        ∙ sym (turned_round out plan.lanes plan.latches loop (length-after_columns plan.columns (entering_bits (first_loop_lane plan.lanes plan.latches) plan.columns inputs starts t) ∙ length-entering plan h inputs starts wide long t) fits (omega arith))
        ∙ sym (get_or-append_right (inputs (suc t)) (reverse (drop (first_loop_lane plan.lanes plan.latches) out)) (first_loop_lane plan.lanes plan.latches) l false (wide (suc t)) high)

    go : (t : ℕ) → bits_at plan 0 (edges (first + t * cycle_tiles plan)) ≡ entering_bits (first_loop_lane plan.lanes plan.latches) plan.columns inputs starts t
    go zero =
        ext_get_or false _ _ (same_lengths 0)
        (λ l within. (let low : l < plan.lanes = omega (arith, within, length-bits_at plan 0 (edges (first + 0 * cycle_tiles plan))) in
        ⊎_elim (λ left. free 0 l starts left) (λ right. start l right low) (cases_lt l (first_loop_lane plan.lanes plan.latches))))
    go (suc t) =
        ext_get_or false _ _ (same_lengths (suc t))
        (λ l within. (let low : l < plan.lanes = omega (arith, within, length-bits_at plan 0 (edges (first + suc t * cycle_tiles plan))) in
        ⊎_elim (λ left. free (suc t) l _ left) (λ right. later t l (go t) right low) (cases_lt l (first_loop_lane plan.lanes plan.latches))))

pub edges_run_by_cycles : (plan : Plan) → IsAdmissible plan → (edges : ℕ → Lit) → GoesOn plan edges → (first t c : ℕ) → c ≤ length plan.columns
    → bits_at plan c (edges (first + t * cycle_tiles plan + c))
    ≡ after_columns (take c plan.columns) (entering_bits (first_loop_lane plan.lanes plan.latches) plan.columns (λ i. free_bits plan (edges (first + i * cycle_tiles plan))) (loop_bits plan (edges first)) t)
edges_run_by_cycles plan h edges g first t c within =
    columns_pass plan h edges g (first + t * cycle_tiles plan) c within
    ∙ ap (after_columns (take c plan.columns)) (entering plan h edges g first t)
