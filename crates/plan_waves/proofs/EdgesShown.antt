-- The cells of the plane of a driven plan at the edges of its body.
use Rattle.std.proofs.Common.{◌≡◌, refl, sym, ◌∙◌, ap, ℤ, pos, ℕ, suc, ◌+◌, ◌-◌, ◌*◌, ◌/◌, ◌%◌, ◌<◌, true, false, length, arith}
use Rattle.std.specs.Prelude.{◌↔◌, ◌==◌, slice_index}
use Rattle.std.proofs.lemmas.Bool.{cond-true, and_from}
use Rattle.std.proofs.lemmas.Bool.Decides.{nat_tests}
use Rattle.std.proofs.lemmas.List.Folds.{list_any_at}
use Rattle.ww_rule.specs.declared.pattern.State.TheVariants.{Head, Conductor}
use Rattle.ww_rule.specs.Wireworld.{Plane, Due, next_plane, evolve, driven}
use Rattle.tile_core.specs.declared.kind.Kind.{Kind}
use Rattle.tile_core.specs.declared.kind.Kind.TheVariants as kind
use Rattle.tile_core.specs.Drawing.{Drawing}
use Rattle.tiling.specs.Tiling.{Tiling, Lit, drawn}
use Rattle.tiling.specs.Tiling.Piece.{Output}
use Rattle.tiling.specs.Tiling.Slot.{Whole}
use Rattle.tiling.specs.Tiling.Edge.{Beside}
use Rattle.tiling.specs.Matched.{IsMatched, is_entered, is_left}
use Rattle.tiling.specs.MacroStep.{slot_answers}
use Rattle.tiling.specs.Steps.{KeepsLaw, IsDriven, driven_edges}
use Rattle.tiling.proofs.Driven.{driven_by_macro}
use Rattle.tiling.proofs.Shown.{shows_edges}
use Rattle.lane_core.specs.declared.plan.Plan.{Plan}
use Rattle.lane_core.specs.Plans.{IsAdmissible, left_of, row_of}
use Rattle.plan_layout.specs.Layout.{turn_slot, end_of_body, upper_left, in_body, upper_right, tiling_of}
use Rattle.lane_core.proofs.Dark.{dark}
use Rattle.plan_layout.specs.Planes.{plane_with}
use Rattle.plan_layout.proofs.Matched.{tiling_is_matched, tiling_of-upper}
use Rattle.plan_layout.proofs.Sides.{in_body_has}
use Rattle.plan_waves.specs.Waves.{GoesOn, DrivesInputs}
use Rattle.plan_waves.specs.ShownEdges.{ShowsEachStep, ShowsDrivenEdges}
use Rattle.plan_waves.proofs.Passing.{step_east}
use Rattle.plan_layout.proofs.Parts.{body_at}
use Rattle.plan_waves.proofs.Inputs.{body_entry, inputs_are_entries, driven_edges_go_on}
use Rattle.plan_waves.proofs.Columns.{east_kind, not_free}
use Rattle.plan_layout.proofs.Columns.{by_column-right}

-- what stands at the cells of ports
pub entered_at : (plan : Plan) → IsAdmissible plan → (c l : ℕ) → c < length plan.columns → l < plan.lanes → is_entered (tiling_of plan (plan.latches + c) l) 0 8 ≡ true
entered_at plan h c l within low =
    ap (λ s. is_entered s 0 8) (body_at plan (plan.latches + c) l (omega arith) (omega arith) low) ∙ body_entry plan (plan.latches + c) l

pub left_at : (plan : Plan) → IsAdmissible plan → (c l : ℕ) → c < length plan.columns → l < plan.lanes → is_left (tiling_of plan (plan.latches + c) l) 31 8 ≡ true
left_at plan h c l within low =
    ap (λ s. is_left s 31 8) (body_at plan (plan.latches + c) l (omega arith) (omega arith) low)
    ∙ in_body_has (λ s. is_left s 31 8 ≡ true) plan (plan.latches + c) l refl east_kind

pub output_at : (plan : Plan) (i : ℕ) → i < length plan.outs → slice_index plan.outs i < plan.lanes → tiling_of plan (end_of_body plan) (slice_index plan.outs i) ≡ Whole Output
output_at plan i within low =
    let q = end_of_body plan in
    let l = slice_index plan.outs i in
    let same : (l == l) ≡ true = grind (arith, nat_tests) in
    let here : (q == end_of_body plan) ≡ true = grind (arith, nat_tests) in
    tiling_of-upper plan q l low
    ∙ by_column-right plan q (upper_left plan q l) (in_body plan q l) (upper_right plan q l) (omega arith)
    ∙ cond-true _ (Whole Output) (turn_slot plan.latches (q - end_of_body plan) (plan.lanes - 1 - l) kind.East kind.EastSouth kind.South)
    (and_from _ _ here (list_any_at (λ out. out == l) plan.outs i 0 within same))

-- what a plane shows at the edges of its blocks, if it goes on by macro steps with these lit edges
module _ (library : Kind → Drawing) (law : KeepsLaw library) (tiling : Tiling) (m_is : IsMatched tiling) (edges : ℕ → Lit) (plane : ℕ → Plane)
    (at_time : (m r : ℕ) → r < 32 → plane (32 * m + r) ≡ evolve r (drawn library tiling (edges m))) where
  -- an entry is a head exactly at macro times at which its edge is lit
  pub entry_head : (q l : ℕ) → is_entered (tiling q l) 0 8 ≡ true
      → ShowsEachStep plane (32 * q, row_of l) 0 (λ m. edges m (Beside q l))
  entry_head q l entered g =
      let shown = (shows_edges library law tiling m_is (edges (g / 32))).entry q l (g % 32) (omega arith) entered in
      let now : 32 * (g / 32) + g % 32 ≡ g = omega arith in
      let here = ap (λ n. plane n (pos (32 * q)) (pos (16 * l + 8))) (sym now) ∙ ap (λ p. p (pos (32 * q)) (pos (16 * l + 8))) (at_time (g / 32) (g % 32) (omega arith)) in (
        λ head. (let found = shown.0 (sym here ∙ head) in (g / 32, omega (arith, found.0), found.1)),
        λ lit. (let time : lit.0 ≡ g / 32 = omega (arith, lit.1) in
            here ∙ shown.1 (omega (arith, lit.1), ap (λ m. edges m (Beside q l)) (sym time) ∙ lit.2)),
      )

  -- an exit is a head 31 generations after macro times at which its block answers 1
  pub exit_head : (q l : ℕ) → is_left (tiling q l) 31 8 ≡ true
      → (g : ℕ) → (plane g (pos (32 * q + 31)) (pos (16 * l + 8)) ≡ Head) ↔ ((m : ℕ) × (g ≡ 32 * m + 31) × (slot_answers (edges m) q l (tiling q l) 31 8 ≡ true))
  exit_head q l left g =
      let shown = (shows_edges library law tiling m_is (edges (g / 32))).exit q l (g % 32) (omega arith) left in
      let now : 32 * (g / 32) + g % 32 ≡ g = omega arith in
      let here = ap (λ n. plane n (pos (32 * q + 31)) (pos (16 * l + 8))) (sym now) ∙ ap (λ p. p (pos (32 * q + 31)) (pos (16 * l + 8))) (at_time (g / 32) (g % 32) (omega arith)) in (
        λ head. (let found = shown.0 (sym here ∙ head) in (g / 32, omega (arith, found.0), found.1)),
        λ lit. (let time : lit.0 ≡ g / 32 = omega (arith, lit.1) in
            here ∙ shown.1 (omega (arith, lit.1), ap (λ m. slot_answers (edges m) q l (tiling q l) 31 8) (sym time) ∙ lit.2)),
      )

-- what is shown of the driven edges, from any lit edges on
pub plans_show_edges : (library : Kind → Drawing) → KeepsLaw library → (plan : Plan) → IsAdmissible plan → (due : Due) → DrivesInputs plan due → (lit : Lit) → ShowsDrivenEdges library plan due lit
plans_show_edges library law plan h due d lit = record {
  first_conductors = first_conductors;
  conductors = conductors;
  entries = λ c l within low. entry_shows (plan.latches + c) l (entered_at plan h c l within low);
  exits = exit_shows;
  outs = λ i within. entry_shows (end_of_body plan) (slice_index plan.outs i) (ap (λ s. is_entered s 0 8) (output_at plan i within (omega (arith, h.outs.below i 0 within))));
}
  where
    m_is : IsMatched (tiling_of plan)
    m_is = tiling_is_matched plan h

    edges : ℕ → Lit
    edges = driven_edges (tiling_of plan) due lit

    goes_on : GoesOn plan edges
    goes_on = driven_edges_go_on plan due d lit

    runs : IsDriven library (tiling_of plan) due lit
    runs = driven_by_macro library law (tiling_of plan) m_is due (inputs_are_entries plan h due d) lit

    plane : ℕ → Plane
    plane = driven due (plane_with library plan lit)

    first_conductors : (lane : ℕ) → due 0 (pos (left_of plan 0)) (pos (row_of lane)) ≡ true → lit (Beside plan.latches lane) ≡ false
        → plane_with library plan lit (pos (left_of plan 0)) (pos (row_of lane)) ≡ Conductor
    first_conductors lane e dark =
        let column : left_of plan 0 ≡ 32 * plan.latches = omega arith in
        ap (λ x. plane_with library plan lit (pos x) (pos (row_of lane))) column
        ∙ runs.first_conductors plan.latches lane (ap (λ x. due 0 (pos x) (pos (row_of lane))) (sym column) ∙ e) dark

    -- a generation of the driven plane, by the macro time before it
    at_time : (m r : ℕ) → r < 32 → plane (32 * m + r) ≡ evolve r (drawn library (tiling_of plan) (edges m))
    at_time m r small = runs.whole m r small

    entry_shows : (q l : ℕ) → is_entered (tiling_of plan q l) 0 8 ≡ true → ShowsEachStep plane (32 * q, row_of l) 0 (λ m. edges m (Beside q l))
    entry_shows = entry_head library law (tiling_of plan) m_is edges plane at_time

    -- the answer of a column is lit after it
    answers_next : (c l m : ℕ) → c < length plan.columns → l < plan.lanes
        → slot_answers (edges m) (plan.latches + c) l (tiling_of plan (plan.latches + c) l) 31 8 ≡ edges (suc m) (Beside (plan.latches + (c + 1)) l)
    answers_next c l m within low =
        sym (step_east (tiling_of plan) m_is (edges m) (plan.latches + c) (plan.latches + (c + 1)) l (omega arith) (left_at plan h c l within low))
        ∙ sym (goes_on.next m (Beside (plan.latches + (c + 1)) l) (not_free plan c l))

    exit_shows : (c l : ℕ) → c < length plan.columns → l < plan.lanes
        → ShowsEachStep plane (left_of plan c + 31, row_of l) 31 (λ m. edges (suc m) (Beside (plan.latches + (c + 1)) l))
    exit_shows c l within low g =
        let head = exit_head library law (tiling_of plan) m_is edges plane at_time (plan.latches + c) l (left_at plan h c l within low) g in (
          λ shown. (let lit = head.0 shown in (lit.0, lit.1, sym (answers_next c l lit.0 within low) ∙ lit.2)),
          λ lit. head.1 (lit.0, lit.1, answers_next c l lit.0 within low ∙ lit.2),
        )

    conductors : (g : ℕ) (x y : ℤ) → due (suc g) x y ≡ true → next_plane (plane g) x y ≡ Conductor
    conductors g x y e =
        let time : suc g % 32 ≡ 0 = d.on_time (suc g) x y e in
        let before : 32 * (g / 32) + 31 ≡ g = omega arith in
        let now : suc g ≡ 32 * suc (g / 32) = omega arith in
        ap (λ n. next_plane (plane n) x y) (sym before) ∙ runs.conductors (g / 32) x y (ap (λ n. due n x y) (sym now) ∙ e)
