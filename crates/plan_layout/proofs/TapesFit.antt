-- The tiles of a plan and of its tape fit together.
use Rattle.std.proofs.Common.{◌≡◌, refl, sym, ◌∙◌, ap, subst, ℕ, ◌+◌, ◌-◌, ◌<◌, ◌≤◌, true, ◌&&◌, ◌⊎◌, ⊎_elim, inl, inr, length, arith}
use Rattle.std.specs.Prelude.{◌==◌, nat_le}
use Rattle.std.specs.List.{list_any}
use Rattle.std.proofs.lemmas.Bool.{true≢false, cases_lt, and_left as none_left, and_right as none_right}
use Rattle.tile_core.specs.declared.kind.Kind.TheVariants as kind
use Rattle.tiling.specs.Tiling.{Piece, interface_of, Slot}
use Rattle.tiling.specs.Tiling.Piece.{Tile}
use Rattle.tiling.specs.Tiling.Slot.{Nothing, Whole, Upper, Lower}
use Rattle.tiling.specs.Matched.{HasWholePieces, IsMatched, is_left}
use Rattle.lane_core.specs.declared.plan.Plan.{Plan}
use Rattle.lane_core.specs.Plans.{IsAdmissible}
use Rattle.lane_core.specs.declared.instr.Instr.{Instr}
use Rattle.lane_core.specs.declared.instr.Instr.TheVariants as instr
use Rattle.lane_core.specs.Entering.{first_loop_lane}
use Rattle.plan_layout.specs.Layout.{kind_of}
use Rattle.plan_layout.specs.Layout.{tiling_of}
use Rattle.plan_layout.proofs.Matched.{tiling_is_matched}
use Rattle.plan_layout.proofs.Sides.{either, IsEastGoing, IsWestGoing, IsUpGoing, IsDownGoing, in_body_has, lane_goes, column_goes}
use Rattle.plan_layout.proofs.Halves.{is_lower}
use Rattle.plan_layout.proofs.Parts.{some_columns, body_at}
use Rattle.plan_layout.specs.Tape.{taped_tiling}
use Rattle.plan_layout.proofs.Taped.{IsOfPlan, tape_block, plan_block, room_block, left_whole}

-- the tile of an instruction is left in the east
leaves_east : (i : Instr) → (is_left (Upper (Tile (kind_of i))) 31 8 ≡ true) × (is_left (Lower (Tile (kind_of i))) 31 8 ≡ true)
leaves_east (instr.Swap i) = (refl, refl)
leaves_east (instr.Fork i) = (refl, refl)
leaves_east (instr.Xor i) = (refl, refl)
leaves_east (instr.Or i) = (refl, refl)
leaves_east (instr.AndNot i) = (refl, refl)

module _ (plan : Plan) (h : IsAdmissible plan) (shift tiles : ℕ) where
  abbrev free : ℕ
  free = first_loop_lane plan.lanes plan.latches

  -- where a block lies: on the tape, in the room that it leaves, or in the plan
  abbrev Place : ℕ → ℕ → Type 0
  Place q l = ((q < shift + plan.latches) × (l < free)) ⊎ (((q < shift) × (free ≤ l)) ⊎ ((p : ℕ) × (shift + p ≡ q) × IsOfPlan plan p l))

  place : (q l : ℕ) → Place q l
  place q l =
      ⊎_elim
      (λ low. ⊎_elim (λ left. inl (left, low)) (λ right. inr (inr (q - shift, omega (arith, right), inl (omega (arith, right))))) (cases_lt q (shift + plan.latches)))
      (λ high. ⊎_elim (λ left. inr (inl (left, high))) (λ right. inr (inr (q - shift, omega (arith, right), inr high))) (cases_lt q shift))
      (cases_lt l free)

  of_plan : (q l p : ℕ) → shift + p ≡ q → IsOfPlan plan p l → taped_tiling plan shift tiles q l ≡ tiling_of plan p l
  of_plan q l p e far = ap (λ n. taped_tiling plan shift tiles n l) (sym e) ∙ plan_block plan h shift tiles p l far

  -- what holds of nothing, of a tile of the tape and of the plan's block holds of the block
  block_has : (P : Slot → Type 0) (q l : ℕ) → P Nothing → P (Whole (Tile kind.East)) → ((p : ℕ) → shift + p ≡ q → IsOfPlan plan p l → P (tiling_of plan p l)) → P (taped_tiling plan shift tiles q l)
  block_has P q l none east own =
      elim (place q l) [
        | inl a ↦ subst P (sym (tape_block plan h shift tiles q l a.0 a.1)) (either P (list_any (λ input. input == l) plan.ins && nat_le (shift + plan.latches) (q + tiles)) east none)
        | inr (inl b) ↦ subst P (sym (room_block plan h shift tiles q l b.0 b.1)) none
        | inr (inr c) ↦ subst P (sym (of_plan q l c.0 c.1 c.2)) (own c.0 c.1 c.2)
      ]

  lane_goes_on : (l : ℕ) → ((q : ℕ) → IsEastGoing (taped_tiling plan shift tiles q l)) ⊎ ((q : ℕ) → IsWestGoing (taped_tiling plan shift tiles q l))
  lane_goes_on l =
      ⊎_elim
      (λ east. inl (λ q. block_has IsEastGoing q l (record { entered = refl; left = refl }) (record { entered = refl; left = refl }) (λ p e far. east p)))
      (λ west. ⊎_elim
      (λ low. (let some : 0 < length plan.columns = some_columns plan h (omega arith) in
      let left : is_left (tiling_of plan plan.latches l) 31 8 ≡ true =
      ap (λ s. is_left s 31 8) (body_at plan plan.latches l (omega arith) (omega arith) (omega arith)) ∙ in_body_has (λ s. is_left s 31 8 ≡ true) plan plan.latches l refl leaves_east in
      absurd (true≢false (sym left ∙ (west plan.latches).left))))
      (λ high. inr (λ q. goes_west q high west))
      (cases_lt l free))
      (lane_goes plan l)
    where
      goes_west : (q : ℕ) → free ≤ l → ((p : ℕ) → IsWestGoing (tiling_of plan p l)) → IsWestGoing (taped_tiling plan shift tiles q l)
      goes_west q high west =
          elim (place q l) [
            | inl a ↦ absurd (omega (arith, a.1, high))
            | inr (inl b) ↦ subst IsWestGoing (sym (room_block plan h shift tiles q l b.0 b.1)) (record { entered = refl; left = refl })
            | inr (inr c) ↦ subst IsWestGoing (sym (of_plan q l c.0 c.1 c.2)) (west c.0)
          ]

  column_goes_on : (q : ℕ) → ((l : ℕ) → IsUpGoing (taped_tiling plan shift tiles q l)) ⊎ ((l : ℕ) → IsDownGoing (taped_tiling plan shift tiles q l))
  column_goes_on q =
      ⊎_elim
      (λ left. inl (λ l. block_has IsUpGoing q l up up_east (λ p e far. absurd (omega (arith, e, left)))))
      (λ right. ⊎_elim
      (λ goes_up. inl (λ l. block_has IsUpGoing q l up up_east (λ p e far. subst (λ n. IsUpGoing (tiling_of plan n l)) (omega (arith, e)) (goes_up l))))
      (λ goes_down. inr (λ l. block_has IsDownGoing q l (record { entered = refl; left = refl }) (record { entered = refl; left = refl })
      (λ p e far. subst (λ n. IsDownGoing (tiling_of plan n l)) (omega (arith, e)) (goes_down l))))
      (column_goes plan (q - shift)))
      (cases_lt q shift)
    where
      up : IsUpGoing Nothing
      up = record { entered = refl; left = refl }

      up_east : IsUpGoing (Whole (Tile kind.East))
      up_east = record { entered = refl; left = refl }

  -- halves stand in the plan alone
  pieces : HasWholePieces (taped_tiling plan shift tiles)
  pieces = record { one = one; two = two; below = below; above = above; first = first }
    where
      own : HasWholePieces (tiling_of plan)
      own = (tiling_is_matched plan h).pieces

      one : (q l : ℕ) (p : Piece) → taped_tiling plan shift tiles q l ≡ Whole p → (interface_of p).lanes ≡ 1
      one q l p e = block_has (λ s. s ≡ Whole p → (interface_of p).lanes ≡ 1) q l (λ f. cc) (λ f. east_high p f) (λ c g far f. own.one c l p f) e
        where
          east_high : (p : Piece) → Whole (Tile kind.East) ≡ Whole p → (interface_of p).lanes ≡ 1
          east_high p f = subst (λ (s : Slot). high s) f refl
            where
              high : Slot → Type 0
              high Nothing = Unit {0}
              high (Whole p) = (interface_of p).lanes ≡ 1
              high (Upper p) = Unit {0}
              high (Lower p) = Unit {0}

      two : (q l : ℕ) (p : Piece) → taped_tiling plan shift tiles q l ≡ Upper p → (interface_of p).lanes ≡ 2
      two q l p e = block_has (λ s. s ≡ Upper p → (interface_of p).lanes ≡ 2) q l (λ f. cc) (λ f. cc) (λ c g far f. own.two c l p f) e

      below : (q l : ℕ) (p : Piece) → taped_tiling plan shift tiles q l ≡ Upper p → taped_tiling plan shift tiles q (l + 1) ≡ Lower p
      below q l p e =
          block_has (λ s. s ≡ Upper p → taped_tiling plan shift tiles q (l + 1) ≡ Lower p) q l (λ f. cc) (λ f. cc)
          (λ c g far f. of_plan q (l + 1) c g (⊎_elim (λ right. inl right) (λ low. inr (omega (arith, low))) far) ∙ own.below c l p f) e

      above : (q l : ℕ) (p : Piece) → taped_tiling plan shift tiles q (l + 1) ≡ Lower p → taped_tiling plan shift tiles q l ≡ Upper p
      above q l p e =
          block_has (λ s. s ≡ Lower p → taped_tiling plan shift tiles q l ≡ Upper p) q (l + 1) (λ f. cc) (λ f. cc)
          (λ c g far f. of_plan q l c g (⊎_elim (λ left. absurd (true≢false (sym (ap is_lower f) ∙ left_whole plan c (l + 1) left))) (λ right. inl right) (cases_lt c plan.latches)) ∙ own.above c l p f) e

      first : (q : ℕ) (p : Piece) → taped_tiling plan shift tiles q 0 ≡ Lower p → ⊥
      first q p e = block_has (λ s. s ≡ Lower p → ⊥) q 0 (λ f. cc) (λ f. cc) (λ c g far f. own.first c p f) e

  pub fits_together : IsMatched (taped_tiling plan shift tiles)
  fits_together = record {
    pieces = pieces;
    entries_beside = λ q l. ⊎_elim (λ east. none_left _ _ (east q).entered) (λ west. none_right _ _ (west (q + 1)).entered) (lane_goes_on l);
    exits_beside = λ q l. ⊎_elim (λ east. none_right _ _ (east (q + 1)).left) (λ west. none_left _ _ (west q).left) (lane_goes_on l);
    entries_above = λ q l. ⊎_elim (λ up. none_right _ _ (up (l + 1)).entered) (λ down. none_left _ _ (down l).entered) (column_goes_on q);
    exits_above = λ q l. ⊎_elim (λ up. none_left _ _ (up l).left) (λ down. none_right _ _ (down (l + 1)).left) (column_goes_on q);
  }
