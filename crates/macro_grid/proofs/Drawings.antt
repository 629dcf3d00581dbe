-- The drawing of a plan: its tiles fit together, nothing stands beyond it, and no edge is lit there.
use Rattle.std.proofs.Common.{◌≡◌, refl, sym, ◌∙◌, ap, ℕ, ◌+◌, ◌-◌, ◌/◌, ◌%◌, ◌<◌, ◌≤◌, Bool, true, false, ◌&&◌, ⊎_elim, inl, inr, List, [], ◌∷◌, arith}
use Rattle.std.specs.Prelude.{◌==◌, nat_le}
use Rattle.std.specs.List.{list_any}
use Rattle.std.proofs.lemmas.Bool.{cases_lt, and_left, and_right, or_from, or_parts}
use Rattle.std.proofs.lemmas.Bool.Decides.{nat_tests}
use Rattle.tiling.specs.Tiling.{Edge}
use Rattle.tiling.specs.Tiling.Edge.{Beside, Above}
use Rattle.tiling.specs.Tiling.Slot.{Nothing}
use Rattle.tiling.specs.Matched.{IsMatched}
use Rattle.lane_core.specs.declared.plan.Plan.{Plan}
use Rattle.lane_core.specs.Plans.{IsAdmissible}
use Rattle.lane_core.specs.Entering.{first_loop_lane, lane_bit}
use Rattle.lane_core.specs.Tape.{cycle_tiles, tape_row, tape_tiles, tape_shift, tape_bit}
use Rattle.plan_layout.specs.Edges.{column_in, lane_in}
use Rattle.plan_layout.specs.Layout.{end_of_body}
use Rattle.plan_layout.specs.Starts.{HasStartEdges, start_edges}
use Rattle.plan_layout.specs.Tape.{drawn_tiling, is_taped, drawn_edges}
use Rattle.plan_layout.proofs.EdgeNames.{lit_is_passed}
use Rattle.plan_layout.proofs.Matched.{tiling_of-below}
use Rattle.plan_layout.proofs.Parts.{none_on}
use Rattle.plan_layout.proofs.Taped.{plan_block, room_block}
use Rattle.plan_layout.proofs.TapesFit.{fits_together}
use Rattle.plan_layout.proofs.Within.{IsWithin, tiling_of-right, passed_within}
use Rattle.macro_grid.specs.Edges.{edge_columns, edge_lanes}

-- a lane of no input has no bit
pub no_input : (ins : List ℕ) (row : List Bool) (lane : ℕ) → list_any (λ input. input == lane) ins ≡ false → lane_bit ins row lane ≡ false
no_input [] row lane none = refl
no_input (first ∷ ins) [] lane none = refl
no_input (first ∷ ins) (bit ∷ row) lane none =
    let parts = or_parts (first == lane) (list_any (λ input. input == lane) ins) none in
    or_from (first == lane && bit) (lane_bit ins row lane) (and_left (first == lane) bit parts.0) (no_input ins row lane parts.1)

module _ (plan : Plan) (h : IsAdmissible plan) where
  pub drawing_fits : IsMatched (drawn_tiling plan)
  drawing_fits = fits_together plan h (tape_shift plan) (tape_tiles plan)

  -- nothing stands east of the drawing, nor below it
  pub drawn_right : (q l : ℕ) → tape_shift plan + (end_of_body plan + plan.latches + 1) ≤ q → drawn_tiling plan q l ≡ Nothing
  drawn_right q l far =
      let place : tape_shift plan + (q - tape_shift plan) ≡ q = omega (arith, far) in
      ap (λ n. drawn_tiling plan n l) (sym place)
      ∙ plan_block plan h (tape_shift plan) (tape_tiles plan) (q - tape_shift plan) l (inl (omega (arith, far)))
      ∙ tiling_of-right plan (q - tape_shift plan) l (omega (arith, far))

  pub drawn_below : (q l : ℕ) → plan.lanes + plan.latches ≤ l → drawn_tiling plan q l ≡ Nothing
  drawn_below q l low =
      ⊎_elim
      (λ room. room_block plan h (tape_shift plan) (tape_tiles plan) q l room (omega (arith, low)))
      (λ right. (let place : tape_shift plan + (q - tape_shift plan) ≡ q = omega (arith, right) in
      ap (λ n. drawn_tiling plan n l) (sym place)
      ∙ plan_block plan h (tape_shift plan) (tape_tiles plan) (q - tape_shift plan) l (inr (omega (arith, low)))
      ∙ tiling_of-below plan (q - tape_shift plan) l low))
      (cases_lt q (tape_shift plan))

  -- no electron of the tape lies beyond the body's first column, nor below the lanes of inputs
  untaped_right : (q l : ℕ) → tape_shift plan + plan.latches < q → is_taped plan q l ≡ false
  untaped_right q l far =
      let no : nat_le q (tape_shift plan + plan.latches) ≡ false = grind (arith, nat_tests) in
      and_left (nat_le q (tape_shift plan + plan.latches)) (tape_bit plan (tape_shift plan + plan.latches - q) l) no

  pub untaped_below : (q l : ℕ) → first_loop_lane plan.lanes plan.latches ≤ l → is_taped plan q l ≡ false
  untaped_below q l low =
      let tiles = tape_shift plan + plan.latches - q in
      and_right (nat_le q (tape_shift plan + plan.latches)) (tape_bit plan tiles l)
      (and_right (tiles % cycle_tiles plan == 0) (lane_bit plan.ins (tape_row plan (tiles / cycle_tiles plan)) l)
      (no_input plan.ins (tape_row plan (tiles / cycle_tiles plan)) l (none_on plan.ins (first_loop_lane plan.lanes plan.latches) l low h.ins.below)))

  module _ (starts : HasStartEdges plan) where
    dark : (edge : Edge) → (IsWithin plan edge → ⊥) → (b : Bool) → start_edges plan edge ≡ b → b ≡ false
    dark edge beyond false e = refl
    dark edge beyond true e = absurd (beyond (passed_within plan edge (lit_is_passed plan starts edge e)))

    -- a start that would lie beyond, where the plan stands
    unlit : (q : ℕ) (edge : Edge) → (tape_shift plan ≤ q → IsWithin plan edge → ⊥) → (nat_le (tape_shift plan) q && start_edges plan edge) ≡ false
    unlit q edge beyond =
        ⊎_elim
        (λ room. (let no : nat_le (tape_shift plan) q ≡ false = grind (arith, nat_tests) in and_left (nat_le (tape_shift plan) q) (start_edges plan edge) no))
        (λ right. and_right (nat_le (tape_shift plan) q) (start_edges plan edge) (dark edge (beyond right) (start_edges plan edge) refl))
        (cases_lt q (tape_shift plan))

    -- no edge round the drawing is lit at generation 0
    pub dark_right : (edge : Edge) → edge_columns plan ≤ column_in edge → drawn_edges plan edge ≡ false
    dark_right (Beside q l) far =
        or_from (is_taped plan q l) (nat_le (tape_shift plan) q && start_edges plan (Beside (q - tape_shift plan) l))
        (untaped_right q l (omega (arith, far))) (unlit q (Beside (q - tape_shift plan) l) (λ right w. omega (arith, w.0, far, right)))
    dark_right (Above q l) far = unlit q (Above (q - tape_shift plan) l) (λ right w. omega (arith, w.0, far, right))

    pub dark_below : (edge : Edge) → edge_lanes plan ≤ lane_in edge → drawn_edges plan edge ≡ false
    dark_below (Beside q l) far =
        or_from (is_taped plan q l) (nat_le (tape_shift plan) q && start_edges plan (Beside (q - tape_shift plan) l))
        (untaped_below q l (omega (arith, far))) (unlit q (Beside (q - tape_shift plan) l) (λ right w. omega (arith, w.1, far)))
    dark_below (Above q l) far = unlit q (Above (q - tape_shift plan) l) (λ right w. omega (arith, w.1, far))
