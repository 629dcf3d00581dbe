-- The start edges of a circuit are where its loops enter the columns: they start one context.
use Rattle.std.proofs.Common.{◌≡◌, ◌≢◌, sym, ◌∙◌, ap, subst, ℕ, zero, suc, ◌+◌, ◌-◌, ◌*◌, ◌<◌, ◌≤◌, ◌==◌, Bool, true, false, ◌&&◌, ◌||◌, cond, ⊎_elim, List, [], ◌∷◌, length, get_or, arith}
use Rattle.std.proofs.lemmas.Bool.{cases_lt, cond-true, or_left, or_right}
use Rattle.std.proofs.lemmas.Bool.Decides.{nat_tests}
use Rattle.std.proofs.lemmas.List.{ext_get_or}
use Rattle.std.proofs.lemmas.List.Elements.{All-nil, All-cons, All-head}
use Rattle.std.proofs.lemmas.List.Folds.{list_any_at, list_any_none}
use Rattle.std.proofs.lemmas.List.FromFn.{length-map-range_with_len, get_or-map-range_with_len}
use Rattle.std.proofs.Math.Bool.{or-false}
use Rattle.tiling.specs.Matched.{is_entered}
use Rattle.lane_core.specs.declared.starts.Start.{Start}
use Rattle.lane_core.specs.declared.plan.Plan.{Plan}
use Rattle.lane_core.specs.Plans.{IsAdmissible, row_of}
use Rattle.lane_core.specs.Starts.{is_start_at}
use Rattle.lane_core.specs.Instrs.{bit_on}
use Rattle.lane_core.specs.Entering.{first_loop_lane}
use Rattle.plan_layout.specs.Layout.{tiling_of}
use Rattle.plan_layout.specs.Starts.{HasCell, NamesEdge, HasStartEdges, start_edges, edge_name, is_passed}
use Rattle.plan_layout.proofs.EdgeNames.{lit_has_name, name_lights, named_is}
use Rattle.plan_layout.proofs.Parts.{body_at}
use Rattle.plan_waves.specs.Waves.{loop_entry, tiles_back}
use Rattle.plan_waves.specs.WaysBack.{before_entry}
use Rattle.plan_waves.specs.Contexts.{contexts_on_ways, StartsContexts}
use Rattle.plan_waves.proofs.Inputs.{body_entry}
use Rattle.plan_waves.proofs.RunningContexts.{ways_with_loops}
use Rattle.circuit_plans.specs.Circuits.{IsCircuit, IsLoopStart, loop_start, starts_with_one, first_bits}
use Rattle.lift_carries.specs.Compiled.{StartsOneContext, OneContextIsCircuit, CircuitsStartOneContext}

-- one context can always be started
one_fits : (plan : Plan) → 1 ≤ contexts_on_ways plan
one_fits plan =
    ⊎_elim
    (λ none. (let no : (plan.latches == 0) ≡ true = grind (arith, nat_tests) in
    let one : contexts_on_ways plan ≡ 1 = cond-true (plan.latches == 0) 1 (tiles_back plan) no in
    omega (arith, one)))
    (λ some. (let many : contexts_on_ways plan ≡ tiles_back plan = ways_with_loops plan (omega (arith, some)) in
    omega (arith, some, many)))
    (cases_lt plan.latches 1)

-- the block behind the entry of a loop is entered there
loop_entered : (plan : Plan) → IsAdmissible plan → (loop : ℕ) → loop < plan.latches → is_entered (tiling_of plan plan.latches (first_loop_lane plan.lanes plan.latches + loop)) 0 8 ≡ true
loop_entered plan h loop low =
    let lane : ℕ = first_loop_lane plan.lanes plan.latches + loop in
    let on : first_loop_lane plan.lanes plan.latches + loop < plan.lanes = omega (arith, low, h.size.loops_on_lanes) in
    let some : 0 < length plan.columns = omega (arith, low, h.size.loops_in_columns) in
    ap (λ s. is_entered s 0 8) (body_at plan plan.latches (first_loop_lane plan.lanes plan.latches + loop) (omega arith) (omega (arith, some)) on) ∙ body_entry plan plan.latches (first_loop_lane plan.lanes plan.latches + loop)

-- so the start of a loop is the name of that edge
loop_named : (plan : Plan) → IsAdmissible plan → (loop : ℕ) → loop < plan.latches → edge_name (tiling_of plan) (loop_entry plan loop) ≡ loop_start plan.lanes plan.latches loop
loop_named plan h loop low =
    ap (λ (b : Bool). record { x = cond b (32 * plan.latches) (32 * plan.latches - 1); y = row_of (first_loop_lane plan.lanes plan.latches + loop) }) (loop_entered plan h loop low)

-- and signals pass it
loop_passed : (plan : Plan) → IsAdmissible plan → (loop : ℕ) → loop < plan.latches → is_passed (tiling_of plan) (loop_entry plan loop) ≡ true
loop_passed plan h loop low = or_right _ _ (or_left _ _ (loop_entered plan h loop low))

module _ (plan : Plan) (c : IsCircuit plan) where
  pub circuit_edges : HasStartEdges plan
  circuit_edges k d lt =
      let at = c.at_loops k d lt in
      record { edge = loop_entry plan at.0; passed = loop_passed plan c.admissible at.0 at.1; name = at.2 ∙ sym (loop_named plan c.admissible at.0 at.1) }

  -- no start lies in another column of cells
  elsewhere : (x y : ℕ) → x ≢ 32 * plan.latches → is_start_at plan.starts.list x y ≡ false
  elsewhere x y other =
      list_any_none (λ start. start.x == x && start.y == y) plan.starts.list
      (λ k d lt. (let at = c.at_loops k d lt in
      let apart : (32 * plan.latches == x) ≡ false = grind (arith, nat_tests) in
      ap (λ (start : Start). start.x == x && start.y == y) at.2 ∙ ap (λ b. b && (row_of (first_loop_lane plan.lanes plan.latches + at.0) == y)) apart))

  -- a loop starts with 1 exactly where its entry is lit
  loop_lit : (loop : ℕ) → loop < plan.latches → start_edges plan (loop_entry plan loop) ≡ bit_on (first_bits plan) loop
  loop_lit loop low =
      ap (λ b. is_start_at plan.starts.list (32 * plan.latches) (row_of (first_loop_lane plan.lanes plan.latches + loop)) || b)
      (elsewhere (32 * plan.latches - 1) (row_of (first_loop_lane plan.lanes plan.latches + loop)) (λ e. absurd (omega (arith, e, low))))
      ∙ or-false _
      ∙ sym (get_or-map-range_with_len (starts_with_one plan.starts.list plan.lanes plan.latches) 0 plan.latches loop loop false low (omega arith))

  long : length (first_bits plan) ≡ plan.latches
  long = length-map-range_with_len (starts_with_one plan.starts.list plan.lanes plan.latches) 0 plan.latches

  by_context : (context loop : ℕ) → context < 1 → loop < plan.latches → start_edges plan (before_entry plan loop context) ≡ bit_on (get_or (first_bits plan ∷ []) context []) loop
  by_context zero loop one low = loop_lit loop low
  by_context (suc context) loop one low = absurd (omega (arith, one))

  pub circuit_on_loops : StartsContexts plan (first_bits plan ∷ []) (start_edges plan)
  unfolding circuit_edges
  circuit_on_loops = record {
    fit = one_fits plan;
    long = All-cons (λ (bits : List Bool). length bits ≡ plan.latches) (first_bits plan) [] long (All-nil (λ (bits : List Bool). length bits ≡ plan.latches));
    on_ways = by_context;
    only = λ edge lit. (let any = lit_has_name plan.starts.list edge lit in
        let at = c.at_loops any.0 any.1 any.2 in
        (0, at.0, omega arith, at.1, named_is (tiling_of plan) _ edge (circuit_edges any.0 any.1 any.2) (subst (λ (s : Start). HasCell edge s.x s.y) (sym any.3) any.4)));
  }

pub circuits_start_one_context : CircuitsStartOneContext
circuits_start_one_context plan c = record { edges = circuit_edges plan c; on_loops = circuit_on_loops plan c }

-- where the start edges start one context, each start is that of a loop
module _ (plan : Plan) (h : IsAdmissible plan) (bits : List Bool) (s : StartsOneContext plan bits) where
  is_there : (k : ℕ) (d : Start) → k < length plan.starts.list → is_start_at plan.starts.list (get_or plan.starts.list k d).x (get_or plan.starts.list k d).y ≡ true
  is_there k d lt =
      let start : Start = get_or plan.starts.list k d in
      let same : ((get_or plan.starts.list k d).x == (get_or plan.starts.list k d).x && (get_or plan.starts.list k d).y == (get_or plan.starts.list k d).y) ≡ true = grind (arith, nat_tests) in
      list_any_at (λ (other : Start). other.x == (get_or plan.starts.list k d).x && other.y == (get_or plan.starts.list k d).y) plan.starts.list k d lt same

  at_loop : (k : ℕ) (d : Start) → k < length plan.starts.list → IsLoopStart plan.lanes plan.latches (get_or plan.starts.list k d)
  at_loop k d lt =
      let names = s.edges k d lt in
      let lit : start_edges plan names.edge ≡ true =
      name_lights (tiling_of plan) plan.starts.list names.edge (subst (λ (start : Start). is_start_at plan.starts.list start.x start.y ≡ true) names.name (is_there k d lt)) in
      of_edge names (s.on_loops.only names.edge lit)
    where
      of_edge : (names : NamesEdge (tiling_of plan) (get_or plan.starts.list k d)) → ((c : ℕ) × (loop : ℕ) × (c < 1) × (loop < plan.latches) × (names.edge ≡ before_entry plan loop c)) → IsLoopStart plan.lanes plan.latches (get_or plan.starts.list k d)
      of_edge names (zero, loop, one, low, e) = (loop, low, names.name ∙ ap (edge_name (tiling_of plan)) e ∙ loop_named plan h loop low)
      of_edge names (suc c, loop, one, low, e) = absurd (omega (arith, one))

pub one_context_is_circuit : OneContextIsCircuit
one_context_is_circuit plan h bare bits s =
    let circuit : IsCircuit plan = record { admissible = h; no_tape = bare; at_loops = at_loop plan h bits s } in
    let own = circuit_on_loops plan circuit in
    let long : length bits ≡ plan.latches = All-head (λ (b : List Bool). length b ≡ plan.latches) bits [] s.on_loops.long in
    let own_long : length (first_bits plan) ≡ plan.latches = All-head (λ (b : List Bool). length b ≡ plan.latches) (first_bits plan) [] own.long in (
      circuit,
      ext_get_or false (first_bits plan) bits (own_long ∙ sym long)
          (λ loop lt. (let low : loop < plan.latches = omega (arith, lt, own_long) in
          sym (own.on_ways 0 loop (omega arith) low) ∙ s.on_loops.on_ways 0 loop (omega arith) low)),
    )
