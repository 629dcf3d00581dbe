-- The cells of a plan with a tape.
use Rattle.std.proofs.Common.{◌≡◌, refl, sym, ◌∙◌, ap, pos, ℕ, zero, suc, ◌+◌, ◌*◌, ◌<◌, ◌≤◌, true, inl, length, Option, Some, None, arith}
use Rattle.std.specs.Prelude.{◌↔◌, slice_index}
use Rattle.std.specs.Option.{ForSome}
use Rattle.std.proofs.Math.Path.{fun_ext}
use Rattle.ww_rule.specs.declared.pattern.State.TheVariants.{Head}
use Rattle.ww_rule.specs.Wireworld.{Plane, Due, evolve, driven}
use Rattle.ww_rule.proofs.Generations.{evolve_add}
use Rattle.tile_core.specs.declared.kind.Kind.{Kind}
use Rattle.tile_core.specs.Drawing.{Drawing}
use Rattle.tiling.specs.Tiling.{Tiling, Edge, Lit, drawn}
use Rattle.tiling.specs.Tiling.Edge.{Beside}
use Rattle.tiling.specs.Matched.{IsMatched, is_entered, is_left}
use Rattle.tiling.specs.MacroStep.{macro_step, slot_answers}
use Rattle.tiling.specs.Steps.{KeepsLaw, after_steps, driven_edges}
use Rattle.tiling.proofs.LitPieces.{steps_by_macro}
use Rattle.lane_core.specs.declared.plan.Plan.{Plan}
use Rattle.lane_core.specs.Plans.{IsAdmissible, left_of, row_of, latency_of, cell_after, net_place}
use Rattle.plan_layout.specs.Layout.{end_of_body, tiling_of}
use Rattle.plan_layout.specs.Planes.{start_plane}
use Rattle.plan_layout.specs.Starts.{start_edges, HasStartEdges}
use Rattle.plan_waves.specs.Waves.{DrivesInputs}
use Rattle.plan_waves.specs.ShownEdges.{ShowsEachStep, ShowsDrivenEdges}
use Rattle.plan_waves.proofs.EdgesShown.{entered_at, entry_head, exit_head, left_at, output_at, plans_show_edges}
use Rattle.plan_layout.proofs.Parts.{some_columns}
use Rattle.plan_waves.proofs.Passing.{step_east}
use Rattle.lane_core.specs.Tape.{HasFittingTape, tape_rows, tape_tiles, tape_shift}
use Rattle.plan_layout.specs.Tape.{taped_tiling, drawn_edges, drawn_plane}
use Rattle.plan_waves.specs.Tape.{drive_of_rows, taped_edges}
use Rattle.plan_waves.specs.TapeLaws.{ShowsWithoutDrive, ShowsByItself}
use Rattle.plan_layout.proofs.Taped.{plan_block}
use Rattle.plan_layout.proofs.TapesFit.{fits_together}
use Rattle.plan_waves.proofs.Blocks.{beside_kept}
use Rattle.plan_waves.proofs.Begin.{begins}
use Rattle.plan_waves.proofs.Rows.{rows_drive, tapes_fit}
use Rattle.plan_waves.proofs.RunIn.{runs_in}

module _ (library : Kind → Drawing) (law : KeepsLaw library) (plan : Plan) (h : IsAdmissible plan) (fits : HasFittingTape plan) (starts : HasStartEdges plan) where
  abbrev shift : ℕ
  shift = tape_shift plan

  abbrev tiling : Tiling
  tiling = taped_tiling plan (tape_shift plan) (tape_tiles plan)

  abbrev due : Due
  due = drive_of_rows plan (tape_rows plan)

  abbrev own : ℕ → Lit
  own = driven_edges (tiling_of plan) (drive_of_rows plan (tape_rows plan)) (start_edges plan)

  abbrev edges : ℕ → Lit
  edges = taped_edges plan (tape_shift plan) (drive_of_rows plan (tape_rows plan)) (driven_edges (tiling_of plan) (drive_of_rows plan (tape_rows plan)) (start_edges plan))

  drives : DrivesInputs plan due
  drives = rows_drive plan h (tape_rows plan)

  m_is : IsMatched tiling
  m_is = fits_together plan h (tape_shift plan) (tape_tiles plan)

  step : (m : ℕ) → macro_step tiling (edges m) ≡ edges (suc m)
  step m = fun_ext (λ (edge : Edge). runs_in plan h (tape_shift plan) (tape_tiles plan) due drives (tapes_fit plan) (start_edges plan) m edge)

  after : (m : ℕ) → after_steps tiling (drawn_edges plan) m ≡ edges m
  after zero = fun_ext (λ (edge : Edge). begins plan h fits starts edge)
  after (suc m) = ap (macro_step tiling) (after m) ∙ step m

  -- a generation of the plane, by the macro time before it
  at_time : (m r : ℕ) → evolve (32 * m + r) (drawn_plane library plan) ≡ evolve r (drawn library tiling (edges m))
  at_time m r =
      let order : 32 * m + r ≡ r + 32 * m = omega arith in
      ap (λ n. evolve n (drawn_plane library plan)) order
      ∙ evolve_add r (32 * m) (drawn_plane library plan)
      ∙ ap (evolve r) ((steps_by_macro library law tiling m_is (drawn_edges plan)).whole m ∙ ap (drawn library tiling) (after m))

  abbrev plane : ℕ → Plane
  plane = λ g. evolve g (drawn_plane library plan)

  entry_shows : (q l : ℕ) → is_entered (tiling q l) 0 8 ≡ true → ShowsEachStep plane (32 * q, row_of l) 0 (λ m. edges m (Beside q l))
  entry_shows = entry_head library law tiling m_is edges plane (λ m r small. at_time m r)

  exit_shows : (q l : ℕ) → is_left (tiling q l) 31 8 ≡ true
      → (g : ℕ) → (plane g (pos (32 * q + 31)) (pos (16 * l + 8)) ≡ Head) ↔ ((m : ℕ) × (g ≡ 32 * m + 31) × (slot_answers (edges m) q l (tiling q l) 31 8 ≡ true))
  exit_shows = exit_head library law tiling m_is edges plane (λ m r small. at_time m r)

  -- the plan's own edges, and its blocks
  own_edge : (q l m : ℕ) → plan.latches ≤ q → edges m (Beside (shift + q) l) ≡ own m (Beside q l)
  own_edge q l m right = beside_kept plan (tape_shift plan) due own m q l (inl right)

  own_block : (q l : ℕ) → plan.latches ≤ q → tiling (shift + q) l ≡ tiling_of plan q l
  own_block q l right = plan_block plan h (tape_shift plan) (tape_tiles plan) q l (inl right)

  answers_next : (q l m : ℕ) → plan.latches ≤ q → is_left (tiling_of plan q l) 31 8 ≡ true
      → slot_answers (edges m) (shift + q) l (tiling (shift + q) l) 31 8 ≡ own (suc m) (Beside (q + 1) l)
  answers_next q l m right left =
      sym (step_east tiling m_is (edges m) (shift + q) (shift + (q + 1)) l (omega arith) (ap (λ s. is_left s 31 8) (own_block q l right) ∙ left))
      ∙ ap (λ lit. lit (Beside (shift + (q + 1)) l)) (step m)
      ∙ own_edge (q + 1) l (suc m) (omega (arith, right))

  shown : ShowsDrivenEdges library plan due (start_edges plan)
  shown = plans_show_edges library law plan h due drives (start_edges plan)

  -- a cell at the entry of a block of the body, or at an output, and what the driven plan shows there
  same_entry : (q l x : ℕ) → plan.latches ≤ q → is_entered (tiling_of plan q l) 0 8 ≡ true → x ≡ 32 * q
      → ShowsEachStep (driven due (start_plane library plan)) (x, row_of l) 0 (λ m. own m (Beside q l)) → (late : ℕ) → ShowsWithoutDrive library plan (x, row_of l, late)
  same_entry q l x right entered e driven_shows late g =
      let column : 32 * shift + x ≡ 32 * (shift + q) = omega (arith, e) in
      let heads = entry_shows (shift + q) l (ap (λ s. is_entered s 0 8) (own_block q l right) ∙ entered) g in
      let place = ap (λ n. plane g (pos n) (pos (row_of l))) column in (
        λ head. (let lit = heads.0 (sym place ∙ head) in (driven_shows g).1 (lit.0, lit.1, sym (own_edge q l lit.0 right) ∙ lit.2)),
        λ head. (let lit = (driven_shows g).0 head in place ∙ heads.1 (lit.0, lit.1, own_edge q l lit.0 right ∙ lit.2)),
      )

  same_exit : (c l late : ℕ) → c < length plan.columns → l < plan.lanes → ShowsWithoutDrive library plan (left_of plan c + 31, row_of l, late)
  same_exit c l late within low g =
      let q = plan.latches + c in
      let next : q + 1 ≡ plan.latches + (c + 1) = omega arith in
      let column : 32 * shift + (left_of plan c + 31) ≡ 32 * (shift + q) + 31 = omega arith in
      let left = left_at plan h c l within low in
      let heads = exit_shows (shift + q) l (ap (λ s. is_left s 31 8) (own_block q l (omega arith)) ∙ left) g in
      let answer = λ (m : ℕ). answers_next q l m (omega arith) left ∙ ap (λ n. own (suc m) (Beside n l)) next in
      let place = ap (λ n. plane g (pos n) (pos (row_of l))) column in (
        λ head. (let lit = heads.0 (sym place ∙ head) in (shown.exits c l within low g).1 (lit.0, lit.1, sym (answer lit.0) ∙ lit.2)),
        λ head. (let lit = (shown.exits c l within low g).0 head in place ∙ heads.1 (lit.0, lit.1, answer lit.0 ∙ lit.2)),
      )

  pub shows_by_itself : ShowsByItself library plan
  shows_by_itself = record { outs = outs; nets = λ i within. (let place = h.nets i (record { lane = 0; after = None }) within in net (net_place plan i).lane (net_place plan i).after place.lane place.after) }
    where
      outs : (i : ℕ) → i < length plan.outs → ShowsWithoutDrive library plan (left_of plan (length plan.columns), row_of (slice_index plan.outs i), latency_of plan)
      outs i within =
          let l = slice_index plan.outs i in
          let low : l < plan.lanes = omega (arith, h.outs.below i 0 within) in
          same_entry (end_of_body plan) l (left_of plan (length plan.columns)) (omega arith) (ap (λ s. is_entered s 0 8) (output_at plan i within low)) refl (shown.outs i within) (latency_of plan)

      net : (lane : ℕ) (after : Option ℕ) → lane < plan.lanes → ForSome after (λ step. step < length plan.columns) → ShowsWithoutDrive library plan (cell_after plan lane after)
      net lane None low place =
          let some = some_columns plan h (omega arith) in
          let first : left_of plan 0 ≡ 32 * (plan.latches + 0) = omega arith in
          same_entry (plan.latches + 0) lane (left_of plan 0) (omega arith) (entered_at plan h 0 lane some low) first (shown.entries 0 lane some low) 0
      net lane (Some column) low place = same_exit column lane (32 * column + 31) (place column refl) low
