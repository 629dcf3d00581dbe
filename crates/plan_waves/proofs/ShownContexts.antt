-- The cells of the plane of a plan that runs several contexts.
use Rattle.std.proofs.Common.{◌≡◌, ◌≢◌, refl, sym, ◌∙◌, ap, ap₂, subst, ℕ, zero, suc, ◌+◌, ◌-◌, ◌*◌, ◌<◌, ◌≤◌, Bool, true, ◌⊎◌, ⊎_elim, inl, inr, List, length, take, Option, Some, None, arith}
use Rattle.std.specs.Prelude.{slice_index}
use Rattle.std.specs.Option.{ForSome}
use Rattle.std.proofs.lemmas.Bool.{cases_lt, cases_eq, true≢false}
use Rattle.std.proofs.lemmas.List.{take_all}
use Rattle.std.proofs.lemmas.Nat.{div-add-mod'}
use Rattle.std.proofs.Math.Nat.{mul-mod_left}
use Rattle.std.specs.Prelude.{◌/◌, ◌%◌}
use Rattle.ww_rule.specs.Injections.{MeetsConductors}
use Rattle.ww_rule.specs.Wireworld.{Plane, Due, driven}
use Rattle.tile_core.specs.declared.kind.Kind.{Kind}
use Rattle.tile_core.specs.Drawing.{Drawing}
use Rattle.tiling.specs.Tiling.{Lit}
use Rattle.tiling.specs.Tiling.Edge.{Beside}
use Rattle.tiling.specs.Steps.{KeepsLaw, driven_edges}
use Rattle.lane_core.specs.declared.plan.Plan.{Plan}
use Rattle.lane_core.specs.Instrs.{bit_on}
use Rattle.lane_core.specs.Columns.{after_columns}
use Rattle.lane_core.specs.Plans.{IsAdmissible, left_of, row_of, latency_of, period_of, cell_after, net_place}
use Rattle.plan_layout.specs.Layout.{tiling_of}
use Rattle.lane_core.proofs.Dark.{dark}
use Rattle.lane_core.specs.Entering.{bits_after}
use Rattle.lane_core.specs.Tape.{cycle_tiles}
use Rattle.plan_layout.specs.Planes.{plane_with}
use Rattle.plan_waves.specs.ShownEdges.{ShowsEachStep, ShowsDrivenEdges}
use Rattle.plan_layout.proofs.Parts.{some_columns}
use Rattle.plan_waves.proofs.Columns.{bit_on-bits_at}
use Rattle.plan_waves.proofs.EdgesShown.{plans_show_edges}
use Rattle.plan_waves.proofs.CycleTiles.{cycle_time}
use Rattle.plan_waves.specs.Contexts.{StartsContexts, DrivesContexts, context_bits, RunsByContexts}
use Rattle.plan_waves.specs.ShownContexts.{ShowsEachContext, ShowsContextBits}
use Rattle.plan_waves.proofs.RunningContexts.{free_dark, inputs_of_contexts, plans_run_by_contexts}

-- a macro time belongs to a cycle, or to none
find_cycle : (m steps c : ℕ) → ((t : ℕ) × (m ≡ c + t * steps)) ⊎ ((t : ℕ) → m ≢ c + t * steps)
find_cycle m steps c =
    ⊎_elim
    (λ before. inr (λ t e. absurd (omega arith)))
    (λ later. ⊎_elim
    (λ whole. (let parts = div-add-mod' (m - c) steps in inl ((m - c) / steps, omega (arith, parts))))
    (λ rest. inr (λ t e. (let d : m - c ≡ t * steps = omega arith in rest (ap (λ n. n % steps) d ∙ mul-mod_left t steps))))
    (cases_eq ((m - c) % steps) 0))
    (cases_lt m c)

-- and to a cycle of one of so many contexts, or to none
find_context : (contexts m steps column : ℕ) → ((c : ℕ) × (t : ℕ) × (c < contexts) × (m ≡ c + t * steps + column)) ⊎ ((c t : ℕ) → c < contexts → m ≢ c + t * steps + column)
find_context zero m steps column = inr (λ c t low e. absurd (omega (arith, low)))
find_context (suc contexts) m steps column =
    ⊎_elim
    (λ found. inl (contexts, found.0, omega arith, omega (arith, found.1)))
    (λ none. ⊎_elim
    (λ earlier. inl (earlier.0, earlier.1, omega (arith, earlier.2), earlier.3))
    (λ nowhere. inr (λ c t low e. ⊎_elim
    (λ last. none t (omega (arith, last, e)))
    (λ other. nowhere c t (omega (arith, low, other)) e)
    (cases_eq c contexts)))
    (find_context contexts m steps column))
    (find_cycle m steps (contexts + column))

pub plans_show_contexts : (library : Kind → Drawing) → KeepsLaw library → (plan : Plan) → IsAdmissible plan → (due : Due) (starts : List (List Bool)) (lit : Lit)
    → DrivesContexts plan (length starts) due → StartsContexts plan starts lit
    → ShowsContextBits library plan lit due (length starts) (context_bits plan due starts)
plans_show_contexts library law plan h due starts lit d s = record {
  conductors = conductors;
  outs = outs;
  nets = λ i within. (let place = h.nets i (record { lane = 0; after = None }) within in net (net_place plan i).lane (net_place plan i).after place.lane place.after);
}
  where
    edges : ℕ → Lit
    edges = driven_edges (tiling_of plan) due lit

    shown : ShowsDrivenEdges library plan due lit
    shown = plans_show_edges library law plan h due (inputs_of_contexts plan (length starts) due d) lit

    runs : RunsByContexts plan due starts edges
    runs = plans_run_by_contexts plan h due starts lit d s

    plane : ℕ → Plane
    plane = driven due (plane_with library plan lit)

    -- an edge at an entry of a column is lit exactly in the cycles of contexts in which the bit on the lane is 1
    bit_of : (column l c t : ℕ) → Bool
    bit_of column l c t = bit_on (after_columns (take column plan.columns) (context_bits plan due starts c t)) l

    in_cycle : (column l c t : ℕ) → c < length starts → column ≤ length plan.columns → l < plan.lanes
        → edges (c + t * cycle_tiles plan + column) (Beside (plan.latches + column) l) ≡ bit_of column l c t
    in_cycle column l c t among within low =
        sym (bit_on-bits_at plan column (edges (c + t * cycle_tiles plan + column)) l low) ∙ ap (λ bits. bit_on bits l) (runs.lit c t column among within)

    edge_lit : (column l : ℕ) → column ≤ length plan.columns → l < plan.lanes → (m : ℕ)
        → (edges m (Beside (plan.latches + column) l) ≡ true) → ((c : ℕ) × (t : ℕ) × (c < length starts) × (m ≡ c + t * cycle_tiles plan + column) × (bit_of column l c t ≡ true))
    edge_lit column l within low m bright =
        ⊎_elim
        (λ f. (f.0, f.1, f.2, f.3, sym (in_cycle column l f.0 f.1 f.2 within low) ∙ ap (λ n. edges n (Beside (plan.latches + column) l)) (sym f.3) ∙ bright))
        (λ none. absurd (true≢false (sym bright ∙ sym (bit_on-bits_at plan column (edges m) l low) ∙ ap (λ bits. bit_on bits l) (runs.dark m column within none) ∙ dark plan.lanes l)))
        (find_context (length starts) m (cycle_tiles plan) column)

    -- a cell that shows such an edge shows the bits on its lane
    edge_shows : (column l : ℕ) → column ≤ length plan.columns → l < plan.lanes → (cell : ℕ × ℕ) → ShowsEachStep plane cell 0 (λ m. edges m (Beside (plan.latches + column) l))
        → ShowsEachContext (length starts) (period_of plan) plane (cell.0, cell.1, 32 * column) (bit_of column l)
    edge_shows column l within low cell shows g = (
      λ head. (let lit = (shows g).0 head in
          let f = edge_lit column l within low lit.0 lit.2 in
          (f.0, f.1, f.2, omega (arith, lit.1, f.3, cycle_time plan f.1), f.4)),
      λ b. (shows g).1 (b.0 + b.1 * cycle_tiles plan + column, omega (arith, b.3, cycle_time plan b.1), in_cycle column l b.0 b.1 b.2 within low ∙ b.4),
    )

    exit_shows : (column l : ℕ) → column < length plan.columns → l < plan.lanes
        → ShowsEachContext (length starts) (period_of plan) plane (left_of plan column + 31, row_of l, 32 * column + 31) (bit_of (column + 1) l)
    exit_shows column l within low g =
        let head = shown.exits column l within low g in (
          λ seen. (let lit = head.0 seen in
              let f = edge_lit (column + 1) l (omega arith) low (suc lit.0) lit.2 in
              (f.0, f.1, f.2, omega (arith, lit.1, f.3, cycle_time plan f.1), f.4)),
          λ b. (let later : suc (b.0 + b.1 * cycle_tiles plan + column) ≡ b.0 + b.1 * cycle_tiles plan + (column + 1) = omega arith in
              head.1 (
                b.0 + b.1 * cycle_tiles plan + column,
                omega (arith, b.3, cycle_time plan b.1),
                ap (λ n. edges n (Beside (plan.latches + (column + 1)) l)) later ∙ in_cycle (column + 1) l b.0 b.1 b.2 (omega arith) low ∙ b.4,
              )),
        )

    outs : (i : ℕ) → i < length plan.outs
        → ShowsEachContext (length starts) (period_of plan) plane (left_of plan (length plan.columns), row_of (slice_index plan.outs i), latency_of plan)
        (λ c t. bit_on (after_columns plan.columns (context_bits plan due starts c t)) (slice_index plan.outs i))
    outs i within =
        let l = slice_index plan.outs i in
        let low : l < plan.lanes = omega (arith, h.outs.below i 0 within) in
        subst (λ columns. ShowsEachContext (length starts) (period_of plan) plane (left_of plan (length plan.columns), row_of l, latency_of plan) (λ c t. bit_on (after_columns columns (context_bits plan due starts c t)) l))
        (take_all (length plan.columns) plan.columns (omega arith))
        (edge_shows (length plan.columns) l (omega arith) low (left_of plan (length plan.columns), row_of l) (shown.outs i within))

    net : (lane : ℕ) (after : Option ℕ) → lane < plan.lanes → ForSome after (λ step. step < length plan.columns)
        → ShowsEachContext (length starts) (period_of plan) plane (cell_after plan lane after) (λ c t. bit_on (bits_after after_columns plan.columns after (context_bits plan due starts c t)) lane)
    net lane None low place = edge_shows 0 lane (omega arith) low (left_of plan 0, row_of lane) (shown.entries 0 lane (some_columns plan h (omega arith)) low)
    net lane (Some column) low place = exit_shows column lane (place column refl) low

    conductors : MeetsConductors due (plane_with library plan lit)
    conductors zero x y e =
        let at = d.at_free_entries 0 x y e in
        ap₂ (plane_with library plan lit) at.2 at.3 ∙ shown.first_conductors at.0 (ap₂ (due 0) (sym at.2) (sym at.3) ∙ e) (free_dark plan h starts lit s at.0 at.1)
    conductors (suc g) x y e = shown.conductors g x y e
