-- The macro times of a plan that runs several contexts.
use Rattle.std.proofs.Common.{◌≡◌, ◌≢◌, refl, sym, ◌∙◌, ap, pos, ℕ, zero, suc, ◌+◌, ◌-◌, ◌*◌, ◌<◌, ◌≤◌, Bool, true, false, cond, ◌||◌, ⊎_elim, List, [], ◌∷◌, length, take, get_or, replicate, arith}
use Rattle.std.specs.Prelude.{◌==◌, ◌/◌, All}
use Rattle.std.proofs.lemmas.Bool.{cases_lt, false_from_ne_true, true≢false, cond-false}
use Rattle.std.proofs.lemmas.Bool.Decides.{nat_tests}
use Rattle.std.proofs.lemmas.List.{ext_get_or, length-replicate}
use Rattle.std.proofs.lemmas.List.FromFn.{length-map-range_with_len, get_or-map-range_with_len, fill_by_all}
use Rattle.std.proofs.lemmas.List.Elements.{All-head, All-tail, All-take}
use Rattle.std.proofs.Math.Nat.{suc-mul}
use Rattle.ww_rule.specs.Wireworld.{Due}
use Rattle.tiling.specs.Tiling.{Edge, Lit}
use Rattle.tiling.specs.Tiling.Edge.{Beside, Above}
use Rattle.tiling.specs.Steps.{injected_edges, driven_edges}
use Rattle.lane_core.specs.declared.instr.Column.{Column}
use Rattle.lane_core.specs.declared.plan.Plan.{Plan}
use Rattle.lane_core.specs.Instrs.{bit_on}
use Rattle.lane_core.specs.Columns.{after_columns, IsColumnOnLanes}
use Rattle.lane_core.specs.Plans.{IsAdmissible, left_of, row_of, period_of}
use Rattle.lane_core.specs.Entering.{first_loop_lane}
use Rattle.lane_core.specs.Tape.{cycle_tiles}
use Rattle.lane_core.proofs.Dark.{dark}
use Rattle.plan_layout.specs.Layout.{tiling_of}
use Rattle.plan_waves.specs.Waves.{is_free_entry, is_body_entry, GoesOn, is_inside, IsDarkInside, bits_at, loop_entry, tiles_back, DrivesInputs}
use Rattle.plan_waves.specs.WaysBack.{before_entry}
use Rattle.plan_waves.specs.Cycles.{free_bits, loop_bits}
use Rattle.plan_waves.proofs.Inputs.{free_place, not_injected, or_none, driven_edges_go_on, inputs_enter}
use Rattle.plan_waves.proofs.Paths.{loop_lane, left_inside}
use Rattle.plan_waves.proofs.Columns.{length-bits_at, bit_on-bits_at, columns_pass}
use Rattle.plan_waves.proofs.Loops.{ways_back, ways_back_are_apart, loops_return, loops_come_round}
use Rattle.plan_waves.proofs.Beginning.{after_dark, body_begins_dark}
use Rattle.plan_waves.proofs.Machine.{both_bits, edges_run_by_cycles}
use Rattle.plan_waves.proofs.CycleTiles.{tiles_with_loops, cycle_time, same_entering}
use Rattle.plan_waves.specs.Contexts.{contexts_on_ways, StartsContexts, DrivesContexts, injected_in, context_bits, RunsByContexts}

-- columns make nothing of nothing
columns_dark : (lanes : ℕ) (columns : List Column) → All (IsColumnOnLanes lanes) columns → after_columns columns (replicate lanes false) ≡ replicate lanes false
columns_dark lanes [] fit = refl
columns_dark lanes (column ∷ columns) fit =
    ap (after_columns columns) (after_dark lanes column.instrs column.sorted_apart (All-head (IsColumnOnLanes lanes) column columns fit))
    ∙ columns_dark lanes columns (All-tail (IsColumnOnLanes lanes) column columns fit)

-- with a loop there are as many contexts as tiles on the way back, and without one there is one
pub ways_with_loops : (plan : Plan) → 0 < plan.latches → contexts_on_ways plan ≡ tiles_back plan
ways_with_loops plan some =
    let no : (plan.latches == 0) ≡ false = grind (arith, nat_tests) in
    cond-false (plan.latches == 0) 1 (tiles_back plan) no

-- so contexts begin one after the other within a cycle
pub contexts_in_cycle : (plan : Plan) → contexts_on_ways plan ≤ cycle_tiles plan
contexts_in_cycle plan = by (plan.latches == 0) (tiles_back plan) (2 * length plan.columns + 4 * plan.latches) (omega arith)
  where
    by : (b : Bool) (x n : ℕ) → x ≤ n → cond b 1 x ≤ cond b 32 (32 * n) / 32
    by true x n h = omega arith
    by false x n h = omega (arith, h)

-- entries that are no entries of the body, and edges inside it, are no free entries
pub free_is_entry : (plan : Plan) (edge : Edge) → is_body_entry plan edge ≡ false → is_free_entry plan edge ≡ false
free_is_entry plan (Above q l) outside = refl
free_is_entry plan (Beside q l) outside =
    false_from_ne_true _ (λ free. (let place = free_place plan q l free in
    let column : q ≡ plan.latches = place.0 in
    let lane : l < plan.lanes = omega (arith, place.1) in
    let entry : is_body_entry plan (Beside q l) ≡ true = grind (arith, nat_tests) in
    true≢false (sym entry ∙ outside)))

inside_no_free : (plan : Plan) (edge : Edge) → is_inside plan edge ≡ true → is_free_entry plan edge ≡ false
inside_no_free plan (Above q l) inside = refl
inside_no_free plan (Beside q l) inside =
    false_from_ne_true _ (λ free. (let place = free_place plan q l free in
    true≢false (sym inside ∙ left_inside plan q l (omega (arith, place.0)))))

-- no edge on a way back is a free entry
pub way_no_free : (plan : Plan) → IsAdmissible plan → (loop j : ℕ) → loop < plan.latches → j ≤ tiles_back plan → is_free_entry plan (before_entry plan loop j) ≡ false
way_no_free plan h loop zero inside within = loop_lane plan plan.latches (first_loop_lane plan.lanes plan.latches + loop) (omega arith)
way_no_free plan h loop (suc j) inside within = free_is_entry plan (before_entry plan loop (suc j)) ((ways_back plan h loop inside).outside (suc j) (omega arith) within)

pub on_way : (plan : Plan) (starts : List (List Bool)) (lit : Lit) → StartsContexts plan starts lit → (c loop : ℕ) → c < length starts → loop < plan.latches → c < tiles_back plan
on_way plan starts lit s c loop low inside = omega (arith, low, s.fit, ways_with_loops plan (omega (arith, inside)))

-- a free entry is lit by no start
pub free_dark : (plan : Plan) → IsAdmissible plan → (starts : List (List Bool)) (lit : Lit) → StartsContexts plan starts lit
    → (lane : ℕ) → lane < first_loop_lane plan.lanes plan.latches → lit (Beside plan.latches lane) ≡ false
free_dark plan h starts lit s lane low =
    false_from_ne_true _ (λ e. (let o = s.only (Beside plan.latches lane) e in
    let free : is_free_entry plan (Beside plan.latches lane) ≡ true = grind (arith, nat_tests) in
    let within : o.0 ≤ tiles_back plan = omega (arith, on_way plan starts lit s o.0 o.1 o.2 o.3) in
    true≢false (sym free ∙ ap (is_free_entry plan) o.4 ∙ way_no_free plan h o.1 o.0 o.3 within)))

-- such injections are injections at inputs
pub inputs_of_contexts : (plan : Plan) (contexts : ℕ) (due : Due) → DrivesContexts plan contexts due → DrivesInputs plan due
inputs_of_contexts plan contexts due d = record {
  on_time = λ g x y e. (let f = d.on_time g x y e in omega (arith, f.3, cycle_time plan f.1));
  at_free_entries = d.at_free_entries;
}

pub plans_run_by_contexts : (plan : Plan) → IsAdmissible plan → (due : Due) (starts : List (List Bool)) (lit : Lit) → DrivesContexts plan (length starts) due → StartsContexts plan starts lit
    → RunsByContexts plan due starts (driven_edges (tiling_of plan) due lit)
plans_run_by_contexts plan h due starts lit d s = record { lit = shown; dark = others }
  where
    fits : plan.latches ≤ plan.lanes
    fits = h.size.loops_on_lanes

    d' : DrivesInputs plan due
    d' = inputs_of_contexts plan (length starts) due d

    edges : ℕ → Lit
    edges = driven_edges (tiling_of plan) due lit

    goes_on : GoesOn plan edges
    goes_on = driven_edges_go_on plan due d' lit

    -- an edge that is no free entry is lit at first by the starts alone
    at_first : (edge : Edge) → is_free_entry plan edge ≡ false → edges 0 edge ≡ lit edge
    at_first edge other = or_none (lit edge) (injected_edges due 0 edge) (not_injected plan due d' 0 edge other)

    -- what is lit on a way back at first comes to the loop's entry
    way_lit : (loop j : ℕ) → loop < plan.latches → j ≤ tiles_back plan → edges j (loop_entry plan loop) ≡ lit (before_entry plan loop j)
    way_lit loop j inside within =
        let now : j ≡ 0 + j = omega arith in
        ap (λ m. edges m (loop_entry plan loop)) now
        ∙ (ways_back plan h loop inside).enters edges goes_on 0 j within
        ∙ at_first (before_entry plan loop j) (way_no_free plan h loop j inside within)

    begins : (c : ℕ) → c < length starts → loop_bits plan (edges c) ≡ get_or starts c []
    begins c low =
        sym (fill_by_all (λ loop. edges c (loop_entry plan loop)) (get_or starts c []) plan.latches false (s.long c [] low)
        (λ k inside. sym (way_lit k c inside (omega (arith, on_way plan starts lit s c k low inside)) ∙ s.on_ways c k low inside)))

    dark_first : IsDarkInside plan (edges 0)
    dark_first edge inside =
        at_first edge (inside_no_free plan edge inside)
        ∙ false_from_ne_true (lit edge) (λ e. (let o = s.only edge e in
        true≢false (sym inside ∙ ap (is_inside plan) o.4 ∙ (ways_back plan h o.1 o.3).apart o.0 (on_way plan starts lit s o.0 o.1 o.2 o.3))))

    -- a free entry is lit by injections, at each macro time
    driven_at : (m lane : ℕ) → lane < first_loop_lane plan.lanes plan.latches → edges m (Beside plan.latches lane) ≡ due (32 * m) (pos (left_of plan 0)) (pos (row_of lane))
    driven_at zero lane low =
        let column : 32 * plan.latches ≡ left_of plan 0 = omega arith in
        ap (λ b. b || due 0 (pos (32 * plan.latches)) (pos (row_of lane))) (free_dark plan h starts lit s lane low)
        ∙ ap (λ x. due 0 (pos x) (pos (row_of lane))) column
    driven_at (suc m) lane low = inputs_enter plan h due lit m lane low

    injected : (c t : ℕ) → free_bits plan (edges (c + t * cycle_tiles plan)) ≡ injected_in plan due c t
    injected c t =
        let time : 32 * (c + t * cycle_tiles plan) ≡ 32 * c + t * period_of plan = omega (arith, cycle_time plan t) in
        fill_by_all (λ lane. due (32 * c + t * period_of plan) (pos (left_of plan 0)) (pos (row_of lane)))
        (free_bits plan (edges (c + t * cycle_tiles plan))) (first_loop_lane plan.lanes plan.latches) false
        (length-map-range_with_len (λ lane. edges (c + t * cycle_tiles plan) (Beside plan.latches lane)) 0 (first_loop_lane plan.lanes plan.latches))
        (λ k low. get_or-map-range_with_len (λ lane. edges (c + t * cycle_tiles plan) (Beside plan.latches lane)) 0 (first_loop_lane plan.lanes plan.latches) k k false low (omega arith)
        ∙ driven_at (c + t * cycle_tiles plan) k low
        ∙ ap (λ g. due g (pos (left_of plan 0)) (pos (row_of k))) time)

    shown : (c t column : ℕ) → c < length starts → column ≤ length plan.columns
        → bits_at plan column (edges (c + t * cycle_tiles plan + column)) ≡ after_columns (take column plan.columns) (context_bits plan due starts c t)
    shown c t column low within =
        edges_run_by_cycles plan h edges goes_on c t column within
        ∙ ap (after_columns (take column plan.columns)) (same_entering plan _ (injected_in plan due c) _ (get_or starts c []) (injected c) (begins c low) t)

    not_due : (m lane : ℕ) → ((c t : ℕ) → c < length starts → m ≢ c + t * cycle_tiles plan) → due (32 * m) (pos (left_of plan 0)) (pos (row_of lane)) ≡ false
    not_due m lane none = false_from_ne_true _ (λ e. (let f = d.on_time _ _ _ e in none f.0 f.1 f.2 (omega (arith, f.3, cycle_time plan f.1))))

    -- on the way back from the start on: the tile m tiles before the entry is lit by no context
    no_start : (m loop : ℕ) → loop < plan.latches → m ≤ tiles_back plan → ((c t : ℕ) → c < length starts → m ≢ c + t * cycle_tiles plan) → edges m (loop_entry plan loop) ≡ false
    no_start m loop inside within none =
        way_lit loop m inside within
        ∙ false_from_ne_true (lit (before_entry plan loop m)) (λ e. (let o = s.only (before_entry plan loop m) e in
        let before : o.0 ≤ tiles_back plan = omega (arith, on_way plan starts lit s o.0 o.1 o.2 o.3) in
        let same = ways_back_are_apart plan h loop o.1 m o.0 inside o.3 within before o.4 in
        none o.0 0 o.2 (omega (arith, same.1))))

    -- what left the dark body before the first context came out of it
    no_exit : (m loop : ℕ) → loop < plan.latches → tiles_back plan < m → m < length plan.columns + tiles_back plan → edges m (loop_entry plan loop) ≡ false
    no_exit m loop inside late soon =
        let before = m - tiles_back plan in
        let sum : m ≡ before + tiles_back plan = omega arith in
        let lane = plan.lanes - 1 - loop in
        ap (λ n. edges n (loop_entry plan loop)) sum
        ∙ loops_return plan h edges goes_on before loop inside
        ∙ sym (bit_on-bits_at plan (length plan.columns) (edges before) lane (omega (arith, fits)))
        ∙ ap (λ bits. bit_on bits lane) (body_begins_dark plan h edges goes_on dark_first before (length plan.columns) (omega arith) (omega arith))
        ∙ dark plan.lanes lane

    no_loop : (m loop : ℕ) → loop < plan.latches → ((c t : ℕ) → c < length starts → m ≢ c + t * cycle_tiles plan)
        → ((before : ℕ) → before < m → ((c t : ℕ) → c < length starts → before ≢ c + t * cycle_tiles plan) → bits_at plan 0 (edges before) ≡ replicate plan.lanes false)
        → edges m (loop_entry plan loop) ≡ false
    no_loop m loop inside none earlier =
        let steps : cycle_tiles plan ≡ length plan.columns + tiles_back plan = tiles_with_loops plan (omega arith) in
        ⊎_elim
        (λ soon. ⊎_elim
        (λ far. no_exit m loop inside far (omega (arith, steps, soon)))
        (λ near. no_start m loop inside near none)
        (cases_lt (tiles_back plan) m))
        (λ late. (let before = m - cycle_tiles plan in
        let sum : m ≡ before + (length plan.columns + tiles_back plan) = omega (arith, steps, late) in
        ap (λ n. edges n (loop_entry plan loop)) sum
        ∙ loops_come_round plan h edges goes_on before loop inside
        ∙ ap (λ bits. bit_on (after_columns plan.columns bits) (plan.lanes - 1 - loop))
        (earlier before (omega (arith, steps, late, inside)) (λ c t low e. none c (suc t) low (omega (arith, late, e, suc-mul t (cycle_tiles plan)))))
        ∙ ap (λ bits. bit_on bits (plan.lanes - 1 - loop)) (columns_dark plan.lanes plan.columns h.instrs)
        ∙ dark plan.lanes (plan.lanes - 1 - loop)))
        (cases_lt m (cycle_tiles plan))

    nothing_enters : (fuel m : ℕ) → m < fuel → ((c t : ℕ) → c < length starts → m ≢ c + t * cycle_tiles plan) → bits_at plan 0 (edges m) ≡ replicate plan.lanes false
    nothing_enters zero m less none = absurd (omega arith)
    nothing_enters (suc fuel) m less none =
        ext_get_or false (bits_at plan 0 (edges m)) (replicate plan.lanes false) (length-bits_at plan 0 (edges m) ∙ sym (length-replicate plan.lanes false))
        (λ l within. (let low : l < plan.lanes = omega (arith, within, length-bits_at plan 0 (edges m)) in
        both_bits plan (edges m) l low
        ∙ ⊎_elim
        (λ free. driven_at m l free ∙ not_due m l none)
        (λ loops. (let loop = l - first_loop_lane plan.lanes plan.latches in
        let lane : l ≡ first_loop_lane plan.lanes plan.latches + loop = omega arith in
        ap (λ n. edges m (Beside plan.latches n)) lane
        ∙ no_loop m loop (omega (arith, fits)) none (λ before earlier. nothing_enters fuel before (omega arith))))
        (cases_lt l (first_loop_lane plan.lanes plan.latches))
        ∙ sym (dark plan.lanes l)))

    others : (m column : ℕ) → column ≤ length plan.columns → ((c t : ℕ) → c < length starts → m ≢ c + t * cycle_tiles plan + column) → bits_at plan column (edges m) ≡ replicate plan.lanes false
    others m column within none =
        ⊎_elim
        (λ soon. body_begins_dark plan h edges goes_on dark_first m column soon within)
        (λ late. (let before = m - column in
        let sum : m ≡ before + column = omega arith in
        ap (λ n. bits_at plan column (edges n)) sum
        ∙ columns_pass plan h edges goes_on before column within
        ∙ ap (after_columns (take column plan.columns)) (nothing_enters (suc before) before (omega arith) (λ c t low e. none c t low (omega (arith, e))))
        ∙ columns_dark plan.lanes (take column plan.columns) (All-take (IsColumnOnLanes plan.lanes) column plan.columns h.instrs)))
        (cases_lt m column)
