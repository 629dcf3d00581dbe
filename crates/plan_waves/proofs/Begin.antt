-- The edges that are lit at the beginning where a plan has a tape.
use Rattle.std.proofs.Common.{◌≡◌, sym, ◌∙◌, ap, ap₂, pos, ℕ, ◌+◌, ◌-◌, ◌*◌, ◌/◌, ◌<◌, ◌≤◌, Bool, true, false, ◌&&◌, ◌||◌, ◌⊎◌, cond, ltb, ⊎_elim, inl, inr, arith}
use Rattle.std.specs.Prelude.{nat_le, nat_lt}
use Rattle.std.proofs.lemmas.Bool.{true≢false, false_from_ne_true, cases_lt, cond-true, cond-false, or_from, and_parts, and_right}
use Rattle.std.proofs.Math.Bool.{or-false, or_comm}
use Rattle.std.proofs.lemmas.Bool.Decides.{nat_tests}
use Rattle.ww_rule.specs.Wireworld.{Due}
use Rattle.tiling.specs.Tiling.{Edge, Lit}
use Rattle.tiling.specs.Tiling.Edge.{Beside, Above}
use Rattle.tiling.specs.Steps.{driven_edges}
use Rattle.lane_core.specs.declared.plan.Plan.{Plan}
use Rattle.lane_core.specs.Plans.{IsAdmissible, left_of, row_of}
use Rattle.lane_core.specs.Entering.{first_loop_lane, lane_bit}
use Rattle.plan_layout.specs.Layout.{tiling_of}
use Rattle.plan_layout.specs.Starts.{start_edges, is_port, is_passed, HasStartEdges}
use Rattle.plan_layout.proofs.EdgeNames.{lit_is_passed}
use Rattle.plan_waves.proofs.Inputs.{not_injected, or_none}
use Rattle.plan_waves.proofs.InputCells.{input_of_lane}
use Rattle.plan_layout.proofs.Parts.{nothing_left}
use Rattle.lane_core.specs.Tape.{HasFittingTape, cycle_tiles, tape_row, tape_rows, tape_shift, tape_bit}
use Rattle.plan_layout.specs.Tape.{is_taped, drawn_edges}
use Rattle.plan_waves.specs.Tape.{drive_of_rows, is_due_on, is_before_body, taped_edges}
use Rattle.plan_layout.proofs.Taped.{IsOfPlan}
use Rattle.plan_waves.proofs.Blocks.{on_tape, off_tape, beside_kept}
use Rattle.plan_waves.proofs.Rows.{rows_drive, tape_is_due}

-- before the body no start is lit on a lane that no loop enters
dark_before : (plan : Plan) → IsAdmissible plan → HasStartEdges plan → (q l : ℕ) → q < plan.latches → l < first_loop_lane plan.lanes plan.latches → start_edges plan (Beside q l) ≡ false
dark_before plan h edges q l left low =
    false_from_ne_true _ (λ lit. true≢false (sym (lit_is_passed plan edges (Beside q l) lit) ∙ not_passed))
  where
    not_passed : is_passed (tiling_of plan) (Beside q l) ≡ false
    not_passed =
        let before : is_port (tiling_of plan (q - 1) l) 31 8 ≡ false = ap (λ s. is_port s 31 8) (nothing_left plan h (q - 1) l (omega (arith, left)) low) in
        let here : is_port (tiling_of plan q l) 0 8 ≡ false = ap (λ s. is_port s 0 8) (nothing_left plan h q l left low) in
        or_from _ _ (and_right (nat_lt 0 q) _ before) here

-- the tape lies on the lanes of inputs, which no loop enters
off_lanes : (plan : Plan) → IsAdmissible plan → (tiles l : ℕ) → first_loop_lane plan.lanes plan.latches ≤ l → tape_bit plan tiles l ≡ false
off_lanes plan h tiles l high =
    false_from_ne_true _ (λ lit. (let row = tape_row plan (tiles / cycle_tiles plan) in
    let input = input_of_lane plan.ins row l (and_parts _ (lane_bit plan.ins row l) lit).1 in
    absurd (omega (arith, high, input.2, h.ins.below input.0 0 input.1))))

module _ (plan : Plan) (h : IsAdmissible plan) (fits : HasFittingTape plan) (starts : HasStartEdges plan) where
  abbrev shift : ℕ
  shift = tape_shift plan

  abbrev free : ℕ
  free = first_loop_lane plan.lanes plan.latches

  abbrev due : Due
  due = drive_of_rows plan (tape_rows plan)

  abbrev edges : ℕ → Lit
  edges = driven_edges (tiling_of plan) (drive_of_rows plan (tape_rows plan)) (start_edges plan)

  abbrev first : Lit
  first = taped_edges plan (tape_shift plan) (drive_of_rows plan (tape_rows plan)) (driven_edges (tiling_of plan) (drive_of_rows plan (tape_rows plan)) (start_edges plan)) 0

  -- the two sides of an edge of the drawing: the tape's, and the plan's
  taped_is : (q l : ℕ) (near lit : Bool) → nat_le q (shift + plan.latches) ≡ near → tape_bit plan (shift + plan.latches - q) l ≡ lit → is_taped plan q l ≡ (near && lit)
  taped_is q l near lit a b = ap₂ (λ x y. x && y) a b

  start_is : (q l : ℕ) → nat_le shift (shift + q) && start_edges plan (Beside (shift + q - shift) l) ≡ start_edges plan (Beside q l)
  start_is q l =
      let yes : nat_le shift (shift + q) ≡ true = grind (arith, nat_tests) in
      let column : shift + q - shift ≡ q = omega arith in
      ap₂ (λ x n. x && start_edges plan (Beside n l)) yes column

  not_taped : (q l : ℕ) → (shift + plan.latches < q → is_taped plan q l ≡ false)
  not_taped q l far = let no : nat_le q (shift + plan.latches) ≡ false = grind (arith, nat_tests) in ap (λ b. b && tape_bit plan (shift + plan.latches - q) l) no

  is_low : (q l : ℕ) → free ≤ l → is_taped plan q l ≡ false
  is_low q l high = and_right (nat_le q (shift + plan.latches)) _ (off_lanes plan h (shift + plan.latches - q) l high)

  -- before the body
  on_the_tape : (q l : ℕ) → q < shift + plan.latches → l < free → drawn_edges plan (Beside q l) ≡ first (Beside q l)
  on_the_tape q l left low =
      let near : nat_le q (shift + plan.latches) ≡ true = grind (arith, nat_tests) in
      let now : shift + plan.latches - q ≡ 0 + (shift + plan.latches - q) = omega arith in
      or_none (is_taped plan q l) _ (dark (cases_lt q shift))
      ∙ ap (λ b. b && tape_bit plan (shift + plan.latches - q) l) near
      ∙ tape_is_due plan fits (shift + plan.latches - q) l
      ∙ ap (λ n. is_due_on plan due (32 * n) l) now
      ∙ sym (cond-true (is_before_body plan shift q l) (is_due_on plan due (32 * (0 + (shift + plan.latches - q))) l) (cond (ltb q shift) false (edges 0 (Beside (q - shift) l))) (on_tape plan shift q l left low))
    where
      dark : (q < shift) ⊎ (shift ≤ q) → nat_le shift q && start_edges plan (Beside (q - shift) l) ≡ false
      dark (inl room) = let no : nat_le shift q ≡ false = grind (arith, nat_tests) in ap (λ b. b && start_edges plan (Beside (q - shift) l)) no
      dark (inr own) = and_right (nat_le shift q) _ (dark_before plan h starts (q - shift) l (omega (arith, own, left)) low)

  -- in the plan
  of_plan : (q l : ℕ) → IsOfPlan plan q l → drawn_edges plan (Beside (shift + q) l) ≡ first (Beside (shift + q) l)
  of_plan q l far =
      ⊎_elim
      (λ low. ⊎_elim
      (λ above. not_free (inl (at_right low above)))
      (λ right. at_entry low right)
      (cases_lt plan.latches q))
      (λ high. not_free (inr high))
      (cases_lt l free)
      ∙ sym (beside_kept plan shift due edges 0 q l far)
    where
      at_right : l < free → plan.latches < q → plan.latches < q
      at_right low above = above

      not_free : (plan.latches < q) ⊎ (free ≤ l) → drawn_edges plan (Beside (shift + q) l) ≡ edges 0 (Beside q l)
      not_free side =
          ap₂ (λ x y. x || y) (⊎_elim (λ right. not_taped (shift + q) l (omega (arith, right))) (λ high. is_low (shift + q) l high) side) (start_is q l)
          ∙ sym (or_none (start_edges plan (Beside q l)) _ (not_injected plan due (rows_drive plan h (tape_rows plan)) 0 (Beside q l) (⊎_elim (λ right. grind (arith, nat_tests)) (λ high. grind (arith, nat_tests)) side)))

      at_entry : l < free → q ≤ plan.latches → drawn_edges plan (Beside (shift + q) l) ≡ edges 0 (Beside q l)
      at_entry low right =
          let here : q ≡ plan.latches = ⊎_elim (λ own. omega (arith, own, right)) (λ high. absurd (omega (arith, low, high))) far in
          let near : nat_le (shift + q) (shift + plan.latches) ≡ true = grind (arith, nat_tests) in
          let at : shift + plan.latches - (shift + q) ≡ 0 = omega (arith, here) in
          let column : left_of plan 0 ≡ 32 * q = omega (arith, here) in
          ap₂ (λ x y. x || y)
          (ap₂ (λ b n. b && tape_bit plan n l) near at ∙ tape_is_due plan fits 0 l ∙ ap (λ x. due 0 (pos x) (pos (row_of l))) column)
          (start_is q l)
          ∙ or_comm _ (start_edges plan (Beside q l))

  -- in the room that the tape leaves
  in_room : (q l : ℕ) → q < shift → free ≤ l → drawn_edges plan (Beside q l) ≡ first (Beside q l)
  in_room q l room high =
      let no : nat_le shift q ≡ false = grind (arith, nat_tests) in
      let yes : ltb q shift ≡ true = grind (arith, nat_tests) in
      or_from _ _ (is_low q l high) (ap (λ b. b && start_edges plan (Beside (q - shift) l)) no)
      ∙ sym (cond-false (is_before_body plan shift q l) (is_due_on plan due (32 * (0 + (shift + plan.latches - q))) l) (cond (ltb q shift) false (edges 0 (Beside (q - shift) l))) (off_tape plan shift q l high)
      ∙ cond-true (ltb q shift) false (edges 0 (Beside (q - shift) l)) yes)

  above : (q l : ℕ) → drawn_edges plan (Above q l) ≡ first (Above q l)
  above q l =
      ⊎_elim
      (λ room. (let no : nat_le shift q ≡ false = grind (arith, nat_tests) in
      let yes : ltb q shift ≡ true = grind (arith, nat_tests) in
      ap (λ b. b && start_edges plan (Above (q - shift) l)) no ∙ sym (cond-true (ltb q shift) false (edges 0 (Above (q - shift) l)) yes)))
      (λ own. (let yes : nat_le shift q ≡ true = grind (arith, nat_tests) in
      let no : ltb q shift ≡ false = grind (arith, nat_tests) in
      ap (λ b. b && start_edges plan (Above (q - shift) l)) yes
      ∙ sym (or-false (start_edges plan (Above (q - shift) l)))
      ∙ sym (cond-false (ltb q shift) false (edges 0 (Above (q - shift) l)) no)))
      (cases_lt q shift)

  pub begins : (edge : Edge) → drawn_edges plan edge ≡ first edge
  begins (Above q l) = above q l
  begins (Beside q l) =
      ⊎_elim
      (λ low. ⊎_elim (λ left. on_the_tape q l left low) (λ right. own (omega (arith, right)) (inl (omega (arith, right)))) (cases_lt q (shift + plan.latches)))
      (λ high. ⊎_elim (λ room. in_room q l room high) (λ right. own right (inr high)) (cases_lt q shift))
      (cases_lt l free)
    where
      own : shift ≤ q → IsOfPlan plan (q - shift) l → drawn_edges plan (Beside q l) ≡ first (Beside q l)
      own right far =
          let place : shift + (q - shift) ≡ q = omega (arith, right) in
          ap (λ n. drawn_edges plan (Beside n l)) (sym place) ∙ of_plan (q - shift) l far ∙ ap (λ n. first (Beside n l)) place
