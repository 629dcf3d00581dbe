-- A macro step of a plan with a tape.
use Rattle.std.proofs.Common.{◌≡◌, refl, sym, ◌∙◌, ap, ap₂, ℕ, suc, ◌+◌, ◌-◌, ◌*◌, ◌<◌, ◌≤◌, Bool, true, false, ◌&&◌, ◌||◌, cond, ltb, ◌⊎◌, ⊎_elim, inl, inr, length, arith}
use Rattle.std.specs.Prelude.{◌==◌, nat_le}
use Rattle.std.specs.List.{list_any}
use Rattle.std.proofs.lemmas.Bool.{cases_lt, cond-true, cond-false, or_from}
use Rattle.std.proofs.lemmas.Bool.Decides.{nat_tests}
use Rattle.ww_rule.specs.Wireworld.{Due}
use Rattle.tiling.specs.Tiling.{Edge, Lit}
use Rattle.tiling.specs.Tiling.Edge.{Beside, Above}
use Rattle.tiling.specs.Matched.{is_left}
use Rattle.tiling.specs.MacroStep.{macro_step, slot_answers}
use Rattle.tiling.specs.Steps.{driven_edges}
use Rattle.tiling.proofs.AtEdges.{beside_first, beside_next, above_first, above_next}
use Rattle.lane_core.specs.declared.plan.Plan.{Plan}
use Rattle.lane_core.specs.Plans.{IsAdmissible}
use Rattle.lane_core.specs.Entering.{first_loop_lane}
use Rattle.plan_layout.specs.Layout.{tiling_of}
use Rattle.plan_layout.proofs.Sides.{body_goes_east}
use Rattle.plan_waves.specs.Waves.{GoesOn, DrivesInputs}
use Rattle.plan_waves.proofs.Inputs.{driven_edges_go_on, inputs_enter}
use Rattle.plan_layout.proofs.Parts.{some_columns, body_at, nothing_left}
use Rattle.plan_waves.proofs.Passing.{answers_none}
use Rattle.plan_layout.specs.Tape.{taped_tiling}
use Rattle.plan_waves.specs.Tape.{is_before_body, is_due_on, taped_edges}
use Rattle.plan_waves.specs.TapeLaws.{FitsTape}
use Rattle.plan_layout.proofs.Taped.{IsOfPlan, tape_block, plan_block, room_block}
use Rattle.plan_waves.proofs.Blocks.{on_tape, off_tape, tape_not_left, tape_goes, beside_kept, above_kept, answers_kept}

-- tests that a bit implies change nothing in it
guarded : (a b d : Bool) → (a ≡ false → d ≡ false) → (b ≡ false → d ≡ false) → ((a && b) && d) ≡ d
guarded true true d p q = refl
guarded true false d p q = sym (q refl)
guarded false b d p q = sym (p refl)

module _ (plan : Plan) (h : IsAdmissible plan) (shift tiles : ℕ) (due : Due) (drives : DrivesInputs plan due) (fits : FitsTape plan shift tiles due) (lit : Lit) (m : ℕ) where
  abbrev free : ℕ
  free = first_loop_lane plan.lanes plan.latches

  abbrev edges : ℕ → Lit
  edges = driven_edges (tiling_of plan) due lit

  abbrev now : Lit
  now = taped_edges plan shift due edges m

  abbrev next : Lit
  next = taped_edges plan shift due edges (suc m)

  goes_on : GoesOn plan edges
  goes_on = driven_edges_go_on plan due drives lit

  -- an edge of the tape at this macro time
  tape_lit : (q l : ℕ) → q < shift + plan.latches → l < free → now (Beside q l) ≡ is_due_on plan due (32 * (m + (shift + plan.latches - q))) l
  tape_lit q l left low =
      cond-true (is_before_body plan shift q l) (is_due_on plan due (32 * (m + (shift + plan.latches - q))) l) (cond (ltb q shift) false (edges m (Beside (q - shift) l))) (on_tape plan shift q l left low)

  -- no block of the tape, nor the first of the body, lights its west side
  west_dark : (q l : ℕ) → q ≤ shift + plan.latches → l < free → slot_answers now q l (taped_tiling plan shift tiles q l) 0 8 ≡ false
  west_dark q l left low =
      answers_none now q l (taped_tiling plan shift tiles q l) 0 8
      (⊎_elim
      (λ before. ap (λ s. is_left s 0 8) (tape_block plan h shift tiles q l before low) ∙ tape_not_left plan shift tiles q l 0 8 refl)
      (λ at. (let some : 0 < length plan.columns = some_columns plan h (omega arith) in
      let here : q ≡ shift + plan.latches = omega arith in
      ap (λ n. is_left (taped_tiling plan shift tiles n l) 0 8) here
      ∙ ap (λ s. is_left s 0 8) (plan_block plan h shift tiles plan.latches l (inl (omega arith)) ∙ body_at plan plan.latches l (omega arith) (omega arith) (omega arith))
      ∙ (body_goes_east plan plan.latches l).left))
      (cases_lt q (shift + plan.latches)))

  -- on the lanes of inputs the tape moves on by a tile, up to the entries of the body
  tape_step : (q l : ℕ) → q ≤ shift + plan.latches → l < free → macro_step (taped_tiling plan shift tiles) now (Beside q l) ≡ is_due_on plan due (32 * (suc m + (shift + plan.latches - q))) l
  tape_step q l left low =
      ⊎_elim
      (λ first. beside_first (taped_tiling plan shift tiles) now q l (omega arith) ∙ west_dark q l left low ∙ sym (fits.within (suc m + (shift + plan.latches - q)) l (omega (arith, fits.room))))
      (λ some. (let p = q - 1 in
      let before : p + 1 ≡ q = omega arith in
      let a = list_any (λ input. input == l) plan.ins in
      let b = nat_le (shift + plan.latches) (p + tiles) in
      let late : m + (shift + plan.latches - p) ≡ suc m + (shift + plan.latches - q) = omega arith in
      beside_next (taped_tiling plan shift tiles) now q l p before
      ∙ ap₂ (λ x y. x || y)
      (ap (λ s. slot_answers now p l s 31 8) (tape_block plan h shift tiles p l (omega arith) low)
      ∙ tape_goes now p l (a && b)
      ∙ ap (λ d. (a && b) && d) (tape_lit p l (omega arith) low)
      ∙ guarded a b (is_due_on plan due (32 * (m + (shift + plan.latches - p))) l)
      (λ none. fits.on_inputs (32 * (m + (shift + plan.latches - p))) l none)
      (λ short. fits.within (m + (shift + plan.latches - p)) l (beyond p short))
      ∙ ap (λ n. is_due_on plan due (32 * n) l) late)
      (west_dark q l left low)
      ∙ or_none (is_due_on plan due (32 * (suc m + (shift + plan.latches - q))) l)))
      (cases_lt q 1)
    where
      beyond : (p : ℕ) → nat_le (shift + plan.latches) (p + tiles) ≡ false → tiles < m + (shift + plan.latches - p)
      beyond p short = grind (arith, nat_tests)

      or_none : (x : Bool) → (x || false) ≡ x
      or_none true = refl
      or_none false = refl

  -- all other edges are those of the plan
  plan_step : (q l : ℕ) → (plan.latches < q) ⊎ (free ≤ l) → macro_step (taped_tiling plan shift tiles) now (Beside (shift + q) l) ≡ edges (suc m) (Beside q l)
  plan_step q l far =
      ⊎_elim (λ first. at_first (omega arith)) (λ some. at_next (q - 1) (omega arith)) (cases_lt q 1)
      ∙ sym (goes_on.next m (Beside q l) (⊎_elim (λ right. grind (arith, nat_tests)) (λ low. grind (arith, nat_tests)) far))
    where
      here : IsOfPlan plan q l
      here = ⊎_elim (λ right. inl (omega (arith, right))) (λ low. inr low) far

      at_next : (p : ℕ) → p + 1 ≡ q → macro_step (taped_tiling plan shift tiles) now (Beside (shift + q) l) ≡ macro_step (tiling_of plan) (edges m) (Beside q l)
      at_next p e =
          let before : IsOfPlan plan p l = ⊎_elim (λ right. inl (omega (arith, right, e))) (λ low. inr low) far in
          beside_next (taped_tiling plan shift tiles) now (shift + q) l (shift + p) (omega (arith, e))
          ∙ ap₂ (λ x y. x || y) (answers_kept plan shift due edges m h tiles p l 31 8 before) (answers_kept plan shift due edges m h tiles q l 0 8 here)
          ∙ sym (beside_next (tiling_of plan) (edges m) q l p e)

      at_first : q ≡ 0 → macro_step (taped_tiling plan shift tiles) now (Beside (shift + q) l) ≡ macro_step (tiling_of plan) (edges m) (Beside q l)
      at_first e =
          let low : free ≤ l = ⊎_elim (λ right. absurd (omega (arith, right, e))) (λ low. low) far in
          ⊎_elim
          (λ none. beside_first (taped_tiling plan shift tiles) now (shift + q) l (omega (arith, e, none)))
          (λ some. (beside_next (taped_tiling plan shift tiles) now (shift + q) l (shift - 1) (omega (arith, e, some))
          ∙ ap (λ s. slot_answers now (shift - 1) l s 31 8 || slot_answers now (shift + q) l (taped_tiling plan shift tiles (shift + q) l) 0 8) (room_block plan h shift tiles (shift - 1) l (omega (arith, some)) low)))
          (cases_lt shift 1)
          ∙ answers_kept plan shift due edges m h tiles q l 0 8 here
          ∙ sym (beside_first (tiling_of plan) (edges m) q l e)

  room_step : (q l : ℕ) → q < shift → free ≤ l → macro_step (taped_tiling plan shift tiles) now (Beside q l) ≡ false
  room_step q l left low =
      ⊎_elim
      (λ first. beside_first (taped_tiling plan shift tiles) now q l (omega arith) ∙ own)
      (λ some. (beside_next (taped_tiling plan shift tiles) now q l (q - 1) (omega arith)
      ∙ or_from _ _ (ap (λ s. slot_answers now (q - 1) l s 31 8) (room_block plan h shift tiles (q - 1) l (omega arith) low)) own))
      (cases_lt q 1)
    where
      own : slot_answers now q l (taped_tiling plan shift tiles q l) 0 8 ≡ false
      own = ap (λ s. slot_answers now q l s 0 8) (room_block plan h shift tiles q l left low)

  -- nothing goes up or down on the tape, or in the room that it leaves
  room_across : (q l y : ℕ) → q < shift → slot_answers now q l (taped_tiling plan shift tiles q l) 16 y ≡ false
  room_across q l y left =
      ⊎_elim
      (λ low. answers_none now q l (taped_tiling plan shift tiles q l) 16 y
      (ap (λ s. is_left s 16 y) (tape_block plan h shift tiles q l (omega arith) low) ∙ tape_not_left plan shift tiles q l 16 y refl))
      (λ high. ap (λ s. slot_answers now q l s 16 y) (room_block plan h shift tiles q l left high))
      (cases_lt l free)

  across_kept : (q l y : ℕ) → slot_answers now (shift + q) l (taped_tiling plan shift tiles (shift + q) l) 16 y ≡ slot_answers (edges m) q l (tiling_of plan q l) 16 y
  across_kept q l y =
      ⊎_elim
      (λ left. ⊎_elim
      (λ low. answers_none now (shift + q) l (taped_tiling plan shift tiles (shift + q) l) 16 y
      (ap (λ s. is_left s 16 y) (tape_block plan h shift tiles (shift + q) l (omega arith) low) ∙ tape_not_left plan shift tiles (shift + q) l 16 y refl)
      ∙ sym (ap (λ s. slot_answers (edges m) q l s 16 y) (nothing_left plan h q l left low)))
      (λ high. answers_kept plan shift due edges m h tiles q l 16 y (inr high))
      (cases_lt l free))
      (λ right. answers_kept plan shift due edges m h tiles q l 16 y (inl right))
      (cases_lt q plan.latches)

  above_step : (q l : ℕ) → macro_step (taped_tiling plan shift tiles) now (Above (shift + q) l) ≡ edges (suc m) (Above q l)
  above_step q l =
      ⊎_elim
      (λ first. (let top : l ≡ 0 = omega arith in
      above_first (taped_tiling plan shift tiles) now (shift + q) l top ∙ across_kept q l 0 ∙ sym (above_first (tiling_of plan) (edges m) q l top)))
      (λ some. (let before : l - 1 + 1 ≡ l = omega arith in
      above_next (taped_tiling plan shift tiles) now (shift + q) l (l - 1) before
      ∙ ap₂ (λ x y. x || y) (across_kept q (l - 1) 15) (across_kept q l 0)
      ∙ sym (above_next (tiling_of plan) (edges m) q l (l - 1) before)))
      (cases_lt l 1)
      ∙ sym (goes_on.next m (Above q l) refl)

  room_above : (q l : ℕ) → q < shift → macro_step (taped_tiling plan shift tiles) now (Above q l) ≡ false
  room_above q l left =
      ⊎_elim
      (λ first. above_first (taped_tiling plan shift tiles) now q l (omega arith) ∙ room_across q l 0 left)
      (λ some. (above_next (taped_tiling plan shift tiles) now q l (l - 1) (omega arith) ∙ or_from _ _ (room_across q (l - 1) 15 left) (room_across q l 0 left)))
      (cases_lt l 1)

  beside_run : (q l : ℕ) → macro_step (taped_tiling plan shift tiles) now (Beside q l) ≡ next (Beside q l)
  beside_run q l =
      ⊎_elim
      (λ low. ⊎_elim
      (λ before. tape_step q l (omega arith) low
      ∙ sym (cond-true (is_before_body plan shift q l) (is_due_on plan due (32 * (suc m + (shift + plan.latches - q))) l) (cond (ltb q shift) false (edges (suc m) (Beside (q - shift) l))) (on_tape plan shift q l before low)))
      (λ rest. ⊎_elim
      (λ at. at_entry (omega arith) low)
      (λ beyond. of_plan (q - shift) (omega arith) (inl (omega arith)))
      (cases_lt q (shift + plan.latches + 1)))
      (cases_lt q (shift + plan.latches)))
      (λ high. ⊎_elim
      (λ room. room_step q l room high ∙ sym (dark_room room high))
      (λ rest. of_plan (q - shift) (omega arith) (inr high))
      (cases_lt q shift))
      (cases_lt l free)
    where
      of_plan : (p : ℕ) → shift + p ≡ q → (plan.latches < p) ⊎ (free ≤ l) → macro_step (taped_tiling plan shift tiles) now (Beside q l) ≡ next (Beside q l)
      of_plan p e far =
          let here : IsOfPlan plan p l = ⊎_elim (λ right. inl (omega (arith, right))) (λ low. inr low) far in
          ap (λ n. macro_step (taped_tiling plan shift tiles) now (Beside n l)) (sym e)
          ∙ plan_step p l far
          ∙ sym (beside_kept plan shift due edges (suc m) p l here)
          ∙ ap (λ n. next (Beside n l)) e

      at_entry : q ≡ shift + plan.latches → l < free → macro_step (taped_tiling plan shift tiles) now (Beside q l) ≡ next (Beside q l)
      at_entry e low =
          let soon : suc m + (shift + plan.latches - q) ≡ suc m = omega (arith, e) in
          tape_step q l (omega (arith, e)) low
          ∙ ap (λ n. is_due_on plan due (32 * n) l) soon
          ∙ sym (inputs_enter plan h due lit m l low)
          ∙ sym (beside_kept plan shift due edges (suc m) plan.latches l (inl (omega arith)))
          ∙ ap (λ n. next (Beside n l)) (sym e)

      dark_room : q < shift → free ≤ l → next (Beside q l) ≡ false
      dark_room left high =
          let yes : ltb q shift ≡ true = grind (arith, nat_tests) in
          cond-false (is_before_body plan shift q l) (is_due_on plan due (32 * (suc m + (shift + plan.latches - q))) l) (cond (ltb q shift) false (edges (suc m) (Beside (q - shift) l))) (off_tape plan shift q l high)
          ∙ cond-true (ltb q shift) false (edges (suc m) (Beside (q - shift) l)) yes

  above_run : (q l : ℕ) → macro_step (taped_tiling plan shift tiles) now (Above q l) ≡ next (Above q l)
  above_run q l =
      ⊎_elim
      (λ room. (let yes : ltb q shift ≡ true = grind (arith, nat_tests) in
      room_above q l room ∙ sym (cond-true (ltb q shift) false (edges (suc m) (Above (q - shift) l)) yes)))
      (λ rest. of_plan (q - shift) (omega arith))
      (cases_lt q shift)
    where
      of_plan : (p : ℕ) → shift + p ≡ q → macro_step (taped_tiling plan shift tiles) now (Above q l) ≡ next (Above q l)
      of_plan p e =
          ap (λ n. macro_step (taped_tiling plan shift tiles) now (Above n l)) (sym e)
          ∙ above_step p l
          ∙ sym (above_kept plan shift due edges (suc m) p l)
          ∙ ap (λ n. next (Above n l)) e

  pub runs_in : (edge : Edge) → macro_step (taped_tiling plan shift tiles) now edge ≡ next edge
  runs_in (Beside q l) = beside_run q l
  runs_in (Above q l) = above_run q l
