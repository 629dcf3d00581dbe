-- Rows of input bits, a list of rows for each context, drive a plan at its inputs.
use Rattle.std.proofs.Common.{◌≡◌, sym, ◌∙◌, ap, ap₂, subst, refl, ℤ, pos, ℕ, ◌+◌, ◌*◌, ◌<◌, ◌≤◌, Bool, true, false, List, [], length, get_or, arith}
use Rattle.std.specs.Prelude.{slice_index}
use Rattle.std.proofs.lemmas.Int.{ints}
use Rattle.std.proofs.lemmas.List.{length-map}
use Rattle.std.proofs.lemmas.List.FromFn.{length-map-range_with_len, get_or-map-range_with_len, fill_by_all}
use Rattle.std.specs.Cmp.{both_ways as same_bit}
use Rattle.ww_rule.specs.Wireworld.{Due}
use Rattle.ww_rule.specs.Contexts.{context_row}
use Rattle.ww_rule.proofs.Contexts.{contexts_injected, one_context}
use Rattle.tile_core.specs.declared.kind.Kind.{Kind}
use Rattle.tile_core.specs.Drawing.{Drawing}
use Rattle.tiling.specs.Tiling.{Lit}
use Rattle.tiling.specs.Steps.{KeepsLaw}
use Rattle.lane_core.specs.declared.plan.Plan.{Plan}
use Rattle.lane_core.specs.Instrs.{bit_on}
use Rattle.lane_core.specs.Columns.{after_columns}
use Rattle.lane_core.specs.Plans.{IsAdmissible, left_of, row_of, period_of, input_cells, net_place}
use Rattle.lane_core.specs.Entering.{first_loop_lane, lane_bit, bits_after}
use Rattle.plan_waves.specs.Contexts.{StartsContexts, DrivesContexts, injected_in, context_bits}
use Rattle.plan_waves.specs.ShownContexts.{ShowsContextBits}
use Rattle.plan_waves.specs.ContextRows.{drive_of_contexts, row_bits_in, AreInjectedInContexts, bits_of_context_rows}
use Rattle.plan_waves.proofs.CycleTiles.{same_entering}
use Rattle.plan_waves.proofs.InputCells.{lane_of_input, input_of_lane, input_cell}
use Rattle.plan_waves.proofs.ShownContexts.{plans_show_contexts}
use Rattle.plan_waves.proofs.IsolatedContexts.{contexts_apart}

pub cells_long : (plan : Plan) → length (input_cells plan) ≡ length plan.ins
cells_long plan = length-map {B = ℕ × ℕ} plan.ins (λ lane. (left_of plan 0, row_of lane))

-- the input of an injection
record InputOf (plan : Plan) (contexts : List (List (List Bool))) (g : ℕ) (x y : ℤ) : Type 0 where
  pub context : ℕ
  pub cycle : ℕ
  pub input : ℕ
  pub among : context < length contexts
  pub time : g ≡ 32 * context + cycle * period_of plan
  pub within : input < length plan.ins
  pub one : get_or (context_row contexts context cycle) input false ≡ true
  pub column : x ≡ pos (left_of plan 0)
  pub line : y ≡ pos (row_of (get_or plan.ins input 0))

input_of : (plan : Plan) (contexts : List (List (List Bool))) (g : ℕ) (x y : ℤ) → drive_of_contexts plan contexts g x y ≡ true → InputOf plan contexts g x y
input_of plan contexts g x y e =
    let b = (contexts_injected (period_of plan) (input_cells plan) contexts g x y).0 e in
    let within : b.input < length plan.ins = omega (arith, b.in_cells, cells_long plan) in
    let cell = input_cell plan b.input within in
    record {
      context = b.context;
      cycle = b.cycle;
      input = b.input;
      among = b.in_contexts;
      time = sym b.in_time;
      within = within;
      one = b.one;
      column = sym b.column ∙ ap (λ c. pos c.0) cell;
      line = sym b.line ∙ ap (λ c. pos c.1) cell;
    }

contexts_drive : (plan : Plan) → IsAdmissible plan → (contexts : List (List (List Bool))) → DrivesContexts plan (length contexts) (drive_of_contexts plan contexts)
contexts_drive plan h contexts = record {
  on_time = λ g x y e. (let i = input_of plan contexts g x y e in (i.context, i.cycle, i.among, i.time));
  at_free_entries = λ g x y e. (let i = input_of plan contexts g x y e in (get_or plan.ins i.input 0, h.ins.below i.input 0 i.within, i.column, i.line));
}

lane_lit : (plan : Plan) (contexts : List (List (List Bool))) → 32 * length contexts ≤ period_of plan → (c t lane : ℕ) → c < length contexts
    → drive_of_contexts plan contexts (32 * c + t * period_of plan) (pos (left_of plan 0)) (pos (row_of lane)) ≡ lane_bit plan.ins (context_row contexts c t) lane
lane_lit plan contexts apart c t lane among = same_bit _ _ to from
  where
    to : drive_of_contexts plan contexts (32 * c + t * period_of plan) (pos (left_of plan 0)) (pos (row_of lane)) ≡ true → lane_bit plan.ins (context_row contexts c t) lane ≡ true
    to e =
        let i = input_of plan contexts (32 * c + t * period_of plan) (pos (left_of plan 0)) (pos (row_of lane)) e in
        let same = one_context (period_of plan) i.context i.cycle c t (omega (arith, i.among, apart)) (omega (arith, among, apart)) (omega (arith, i.time)) in
        let here : get_or plan.ins i.input 0 ≡ lane = omega (arith, ints, i.line) in
        ap₂ (λ k s. lane_bit plan.ins (context_row contexts k s) lane) (sym same.0) (sym same.1)
        ∙ ap (lane_bit plan.ins (context_row contexts i.context i.cycle)) (sym here)
        ∙ lane_of_input plan.ins (context_row contexts i.context i.cycle) i.input i.within i.one

    from : lane_bit plan.ins (context_row contexts c t) lane ≡ true → drive_of_contexts plan contexts (32 * c + t * period_of plan) (pos (left_of plan 0)) (pos (row_of lane)) ≡ true
    from bright =
        let i = input_of_lane plan.ins (context_row contexts c t) lane bright in
        let cell = input_cell plan i.0 i.1 in
        (contexts_injected (period_of plan) (input_cells plan) contexts (32 * c + t * period_of plan) (pos (left_of plan 0)) (pos (row_of lane))).1 (record {
          context = c;
          cycle = t;
          input = i.0;
          in_contexts = among;
          in_time = refl;
          in_cells = omega (arith, i.1, cells_long plan);
          one = i.3;
          column = ap (λ c. pos c.0) cell;
          line = ap (λ c. pos c.1) cell ∙ ap (λ n. pos (row_of n)) i.2;
        })

pub context_rows_are_injected : (plan : Plan) → IsAdmissible plan → (starts : List (List Bool)) (lit : Lit) → StartsContexts plan starts lit
    → (contexts : List (List (List Bool))) → length contexts ≡ length starts → AreInjectedInContexts plan contexts
context_rows_are_injected plan h starts lit s contexts many = record {
  drive = contexts_drive plan h contexts;
  bits = λ c t among. fill_by_all (lane_bit plan.ins (context_row contexts c t)) (injected_in plan (drive_of_contexts plan contexts) c t) (first_loop_lane plan.lanes plan.latches) false
      (length-map-range_with_len (λ lane. drive_of_contexts plan contexts (32 * c + t * period_of plan) (pos (left_of plan 0)) (pos (row_of lane))) 0 (first_loop_lane plan.lanes plan.latches))
      (λ k low. get_or-map-range_with_len (λ lane. drive_of_contexts plan contexts (32 * c + t * period_of plan) (pos (left_of plan 0)) (pos (row_of lane))) 0 (first_loop_lane plan.lanes plan.latches) k k false low (omega arith)
      ∙ lane_lit plan contexts (omega (arith, many, contexts_apart plan starts lit s)) c t k among);
}

-- what a cell shows does not change where the bits of the contexts are the same
same_shown : (library : Kind → Drawing) (plan : Plan) (lit : Lit) (due : Due) (contexts : ℕ) (entering entering' : ℕ → ℕ → List Bool)
    → ((c t : ℕ) → c < contexts → entering c t ≡ entering' c t) → ShowsContextBits library plan lit due contexts entering → ShowsContextBits library plan lit due contexts entering'
same_shown library plan lit due contexts entering entering' same shows = record {
  conductors = shows.conductors;
  outs = λ i within g. (
    λ head. (let f = (shows.outs i within g).0 head in (f.0, f.1, f.2, f.3, ap (λ bits. bit_on (after_columns plan.columns bits) (slice_index plan.outs i)) (sym (same f.0 f.1 f.2)) ∙ f.4)),
    λ b. (shows.outs i within g).1 (b.0, b.1, b.2, b.3, ap (λ bits. bit_on (after_columns plan.columns bits) (slice_index plan.outs i)) (same b.0 b.1 b.2) ∙ b.4),
  );
  nets = λ i within g. (
    λ head. (let f = (shows.nets i within g).0 head in (f.0, f.1, f.2, f.3, ap (λ bits. bit_on (bits_after after_columns plan.columns (net_place plan i).after bits) (net_place plan i).lane) (sym (same f.0 f.1 f.2)) ∙ f.4)),
    λ b. (shows.nets i within g).1 (b.0, b.1, b.2, b.3, ap (λ bits. bit_on (bits_after after_columns plan.columns (net_place plan i).after bits) (net_place plan i).lane) (same b.0 b.1 b.2) ∙ b.4),
  );
}

pub plans_show_context_rows : (library : Kind → Drawing) → KeepsLaw library → (plan : Plan) → IsAdmissible plan → (starts : List (List Bool)) (lit : Lit) → StartsContexts plan starts lit
    → (contexts : List (List (List Bool))) → length contexts ≡ length starts
    → ShowsContextBits library plan lit (drive_of_contexts plan contexts) (length starts) (bits_of_context_rows plan starts contexts)
plans_show_context_rows library law plan h starts lit s contexts many =
    let into = context_rows_are_injected plan h starts lit s contexts many in
    let drive : DrivesContexts plan (length starts) (drive_of_contexts plan contexts) = subst (λ n. DrivesContexts plan n (drive_of_contexts plan contexts)) many into.drive in
    same_shown library plan lit (drive_of_contexts plan contexts) (length starts) (context_bits plan (drive_of_contexts plan contexts) starts) (bits_of_context_rows plan starts contexts)
    (λ c t among. same_entering plan (injected_in plan (drive_of_contexts plan contexts) c) (row_bits_in plan contexts c) (get_or starts c []) (get_or starts c [])
    (λ i. into.bits c i (omega (arith, many, among))) refl t)
    (plans_show_contexts library law plan h (drive_of_contexts plan contexts) starts lit drive s)
