-- What stands on the tape of a plan, in the room that it leaves, and in the plan, which stands further east.
use Rattle.std.proofs.Common.{◌≡◌, refl, ◌∙◌, ap, ap₂, ℕ, ◌+◌, ◌-◌, ◌<◌, ◌≤◌, Bool, true, false, ◌&&◌, cond, ◌⊎◌, ⊎_elim, inl, inr, arith}
use Rattle.std.specs.Prelude.{◌==◌, nat_lt, nat_le}
use Rattle.std.specs.List.{list_any}
use Rattle.std.proofs.lemmas.Bool.{false≢true, cases_lt, cond-true, cond-false, and_right}
use Rattle.std.proofs.lemmas.Bool.Decides.{nat_tests}
use Rattle.tile_core.specs.declared.kind.Kind.TheVariants as kind
use Rattle.tiling.specs.Tiling.{Slot}
use Rattle.tiling.specs.Tiling.Piece.{Tile}
use Rattle.tiling.specs.Tiling.Slot.{Nothing, Whole}
use Rattle.lane_core.specs.declared.plan.Plan.{Plan}
use Rattle.lane_core.specs.Plans.{IsAdmissible}
use Rattle.lane_core.specs.Entering.{first_loop_lane}
use Rattle.plan_layout.specs.Layout.{upper_left, in_body, upper_right, lower_left, on_return, lower_right, tiling_of}
use Rattle.plan_layout.specs.Tape.{is_on_tape, taped_tiling}
use Rattle.plan_layout.proofs.Columns.{by_column-left}
use Rattle.plan_layout.proofs.Halves.{is_lower}
use Rattle.plan_layout.proofs.Matched.{tiling_of-upper, tiling_of-lower, tiling_of-below}
use Rattle.plan_layout.proofs.Parts.{nothing_left, none_on}
use Rattle.plan_layout.proofs.Sides.{upper_left_has, lower_left_has}

-- in the plan where it stands without a tape, not before the body on a lane that no loop enters
abbrev pub IsOfPlan : Plan → ℕ → ℕ → Type 0
IsOfPlan plan q l = (plan.latches ≤ q) ⊎ (first_loop_lane plan.lanes plan.latches ≤ l)

-- before the body, on a lane that no loop enters: on the lane of an input, and no more tiles than the tape has before the
-- body, a tile that goes on
abbrev pub tape_slot : Plan → (shift tiles q l : ℕ) → Slot
tape_slot plan shift tiles q l = cond (list_any (λ input. input == l) plan.ins && nat_le (shift + plan.latches) (q + tiles)) (Whole (Tile kind.East)) Nothing

-- the rest of the drawing
abbrev moved : Plan → (shift q l : ℕ) → Slot
moved plan shift q l = cond (nat_lt q shift) Nothing (tiling_of plan (q - shift) l)

swapped : (a b c : Bool) → a ≡ true → ((a && b) && c) ≡ (c && b)
swapped true true true e = refl
swapped true true false e = refl
swapped true false true e = refl
swapped true false false e = refl
swapped false b c e = absurd (false≢true e)

module _ (plan : Plan) (h : IsAdmissible plan) (shift tiles : ℕ) where
  -- what stands on the tape, in the plan, and in the room that the tape leaves
  pub tape_block : (q l : ℕ) → q < shift + plan.latches → l < first_loop_lane plan.lanes plan.latches → taped_tiling plan shift tiles q l ≡ tape_slot plan shift tiles q l
  tape_block q l left free =
      let before : nat_lt q (shift + plan.latches) ≡ true = grind (arith, nat_tests) in
      ap₂ (λ b s. cond b (Whole (Tile kind.East)) s) (swapped (nat_lt q (shift + plan.latches)) (nat_le (shift + plan.latches) (q + tiles)) (list_any (λ input. input == l) plan.ins) before) nothing
    where
      nothing : moved plan shift q l ≡ Nothing
      nothing =
          ⊎_elim
          (λ room. (let yes : nat_lt q shift ≡ true = grind (arith, nat_tests) in cond-true (nat_lt q shift) Nothing (tiling_of plan (q - shift) l) yes))
          (λ near. (let no : nat_lt q shift ≡ false = grind (arith, nat_tests) in
          cond-false (nat_lt q shift) Nothing (tiling_of plan (q - shift) l) no ∙ nothing_left plan h (q - shift) l (omega arith) free))
          (cases_lt q shift)

  pub off_tape : (q l : ℕ) → (shift + plan.latches ≤ q) ⊎ (first_loop_lane plan.lanes plan.latches ≤ l) → is_on_tape plan shift tiles q l ≡ false
  off_tape q l (inl right) =
      let no : nat_lt q (shift + plan.latches) ≡ false = grind (arith, nat_tests) in
      ap (λ b. (b && nat_le (shift + plan.latches) (q + tiles)) && list_any (λ input. input == l) plan.ins) no
  off_tape q l (inr low) = and_right (nat_lt q (shift + plan.latches) && nat_le (shift + plan.latches) (q + tiles)) _ (none_on plan.ins (first_loop_lane plan.lanes plan.latches) l low h.ins.below)

  pub plan_block : (q l : ℕ) → IsOfPlan plan q l → taped_tiling plan shift tiles (shift + q) l ≡ tiling_of plan q l
  plan_block q l far =
      let no : nat_lt (shift + q) shift ≡ false = grind (arith, nat_tests) in
      let column : shift + q - shift ≡ q = omega arith in
      cond-false (is_on_tape plan shift tiles (shift + q) l) (Whole (Tile kind.East)) (moved plan shift (shift + q) l)
      (off_tape (shift + q) l (⊎_elim (λ right. inl (omega (arith, right))) (λ low. inr low) far))
      ∙ cond-false (nat_lt (shift + q) shift) Nothing (tiling_of plan (shift + q - shift) l) no
      ∙ ap (λ n. tiling_of plan n l) column

  pub room_block : (q l : ℕ) → q < shift → first_loop_lane plan.lanes plan.latches ≤ l → taped_tiling plan shift tiles q l ≡ Nothing
  room_block q l left low =
      let yes : nat_lt q shift ≡ true = grind (arith, nat_tests) in
      cond-false (is_on_tape plan shift tiles q l) (Whole (Tile kind.East)) (moved plan shift q l) (off_tape q l (inr low))
      ∙ cond-true (nat_lt q shift) Nothing (tiling_of plan (q - shift) l) yes

-- left of its body a plan has no lower half of a tile
pub left_whole : (plan : Plan) (q l : ℕ) → q < plan.latches → is_lower (tiling_of plan q l) ≡ false
left_whole plan q l left =
    ⊎_elim
    (λ above. (ap is_lower (tiling_of-upper plan q l above ∙ by_column-left plan q (upper_left plan q l) (in_body plan q l) (upper_right plan q l) left)
    ∙ upper_left_has (λ s. is_lower s ≡ false) plan q l refl refl refl refl))
    (λ below. ⊎_elim
    (λ within. (ap is_lower (tiling_of-lower plan q l below within ∙ by_column-left plan q (lower_left plan q l) (on_return plan q l) (lower_right plan q l) left)
    ∙ lower_left_has (λ s. is_lower s ≡ false) plan q l refl refl refl refl))
    (λ out. ap is_lower (tiling_of-below plan q l out))
    (cases_lt l (plan.lanes + plan.latches)))
    (cases_lt l plan.lanes)
