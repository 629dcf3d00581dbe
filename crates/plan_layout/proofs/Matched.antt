-- The tiles of a plan fit together.
use Rattle.std.proofs.Common.{◌≡◌, refl, sym, ◌∙◌, ap, subst, ℕ, ◌+◌, ◌-◌, ◌<◌, ◌≤◌, Bool, true, false, cond, ltb, ⊎_elim, arith}
use Rattle.std.proofs.lemmas.Bool.Decides.{nat_tests}
use Rattle.std.proofs.lemmas.Bool.{cases_lt, and_left as none_left}
use Rattle.tile_core.specs.declared.kind.Kind.TheVariants as kind
use Rattle.tiling.specs.Tiling.{Piece, interface_of, Slot}
use Rattle.tiling.specs.Tiling.Piece.{Tile, Output}
use Rattle.tiling.specs.Tiling.Slot.{Nothing, Whole, Upper, Lower}
use Rattle.tiling.specs.Matched.{HasWholePieces, IsMatched}
use Rattle.lane_core.specs.declared.instr.Instr.{Instr}
use Rattle.lane_core.specs.declared.instr.Instr.TheVariants as instr
use Rattle.lane_core.specs.declared.plan.Plan.{Plan}
use Rattle.lane_core.specs.Plans.{IsAdmissible}
use Rattle.plan_layout.specs.Layout.{kind_of, return_slot, instrs_of, end_of_body, upper_left, in_body, upper_right, lower_left, on_return, lower_right, by_column, upper_part, lower_part, tiling_of}
use Rattle.plan_layout.proofs.Sides.{either, lane_goes, column_goes, upper_left_has, in_body_has, upper_right_has, lower_left_has, on_return_has, lower_right_has}
use Rattle.plan_layout.proofs.Halves.{is_upper, is_lower, Joined, joined_apart, same_joined, body_joined, body_ends, body_begins, instrs_sorted, instrs_on_lanes, return_joined, return_ends, return_begins}
use Rattle.std.proofs.lemmas.Bool.{and_right as none_right}

-- the parts of the plan by lanes
pub tiling_of-upper : (plan : Plan) (q l : ℕ) → l < plan.lanes → tiling_of plan q l ≡ upper_part plan q l
tiling_of-upper plan q l h =
    let yes : ltb l plan.lanes ≡ true = grind (arith, nat_tests) in
    ap (λ b. cond b (upper_part plan q l) (cond (ltb l (plan.lanes + plan.latches)) (lower_part plan q l) Nothing)) yes

pub tiling_of-lower : (plan : Plan) (q l : ℕ) → plan.lanes ≤ l → l < plan.lanes + plan.latches → tiling_of plan q l ≡ lower_part plan q l
tiling_of-lower plan q l above below =
    let no : ltb l plan.lanes ≡ false = grind (arith, nat_tests) in
    let yes : ltb l (plan.lanes + plan.latches) ≡ true = grind (arith, nat_tests) in
    ap (λ b. cond b (upper_part plan q l) (cond (ltb l (plan.lanes + plan.latches)) (lower_part plan q l) Nothing)) no
    ∙ ap (λ b. cond b (lower_part plan q l) Nothing) yes

pub tiling_of-below : (plan : Plan) (q l : ℕ) → plan.lanes + plan.latches ≤ l → tiling_of plan q l ≡ Nothing
tiling_of-below plan q l h =
    let no : ltb l plan.lanes ≡ false = grind (arith, nat_tests) in
    let no' : ltb l (plan.lanes + plan.latches) ≡ false = grind (arith, nat_tests) in
    ap (λ b. cond b (upper_part plan q l) (cond (ltb l (plan.lanes + plan.latches)) (lower_part plan q l) Nothing)) no
    ∙ ap (λ b. cond b (lower_part plan q l) Nothing) no'

-- what holds of all kinds of tiles that a plan may have holds of what stands in each block
pub tiling_has : (P : Slot → Type 0) → P Nothing → P (Whole Output)
    → P (Whole (Tile kind.East)) → P (Whole (Tile kind.NorthEast)) → P (Whole (Tile kind.North)) → P (Whole (Tile kind.EastSouth)) → P (Whole (Tile kind.South))
    → P (Whole (Tile kind.West)) → P (Whole (Tile kind.WestNorth)) → P (Whole (Tile kind.SouthWest))
    → P (Upper (Tile kind.WestSwap)) → P (Lower (Tile kind.WestSwap))
    → ((i : Instr) → P (Upper (Tile (kind_of i))) × P (Lower (Tile (kind_of i))))
    → (plan : Plan) (q l : ℕ) → P (tiling_of plan q l)
tiling_has P none out e ne n es s w wn sw u d i plan q l =
    either P (ltb l plan.lanes)
    (either P (ltb q plan.latches) (upper_left_has P plan q l none e ne n)
    (either P (ltb q (end_of_body plan)) (in_body_has P plan q l e i) (upper_right_has P plan q l none out e es s)))
    (either P (ltb l (plan.lanes + plan.latches))
    (either P (ltb q plan.latches) (lower_left_has P plan q l none w wn n)
    (either P (ltb q (end_of_body plan)) (on_return_has P plan q l w u d) (lower_right_has P plan q l none w sw s)))
    none)

-- the piece is as high as the block says
abbrev HasHeight : Slot → Type 0
HasHeight Nothing = Unit {0}
HasHeight (Whole piece) = (interface_of piece).lanes ≡ 1
HasHeight (Upper piece) = (interface_of piece).lanes ≡ 2
HasHeight (Lower piece) = Unit {0}

instr_height : (i : Instr) → HasHeight (Upper (Tile (kind_of i))) × HasHeight (Lower (Tile (kind_of i)))
instr_height (instr.Swap i) = (refl, tt)
instr_height (instr.Fork i) = (refl, tt)
instr_height (instr.Xor i) = (refl, tt)
instr_height (instr.Or i) = (refl, tt)
instr_height (instr.AndNot i) = (refl, tt)

heights : (plan : Plan) (q l : ℕ) → HasHeight (tiling_of plan q l)
heights = tiling_has HasHeight tt refl refl refl refl refl refl refl refl refl refl tt instr_height

-- halves in the parts by columns
parts_joined : (plan : Plan) (q : ℕ) (a b c a' b' c' : Slot) → Joined a a' → Joined b b' → Joined c c' → Joined (by_column plan q a b c) (by_column plan q a' b' c')
parts_joined plan q a b c a' b' c' = three (ltb q plan.latches) (ltb q (end_of_body plan)) a b c a' b' c'
  where
    three : (x y : Bool) (a b c a' b' c' : Slot) → Joined a a' → Joined b b' → Joined c c' → Joined (cond x a (cond y b c)) (cond x a' (cond y b' c'))
    three true y a b c a' b' c' f g h = f
    three false true a b c a' b' c' f g h = g
    three false false a b c a' b' c' f g h = h

whole_left : (plan : Plan) (q l : ℕ) → (is_upper (upper_left plan q l) ≡ false) × (is_lower (upper_left plan q l) ≡ false)
whole_left plan q l = (upper_left_has (λ s. is_upper s ≡ false) plan q l refl refl refl refl, upper_left_has (λ s. is_lower s ≡ false) plan q l refl refl refl refl)

whole_right : (plan : Plan) (q l : ℕ) → (is_upper (upper_right plan q l) ≡ false) × (is_lower (upper_right plan q l) ≡ false)
whole_right plan q l = (upper_right_has (λ s. is_upper s ≡ false) plan q l refl refl refl refl refl, upper_right_has (λ s. is_lower s ≡ false) plan q l refl refl refl refl refl)

whole_left_below : (plan : Plan) (q l : ℕ) → (is_upper (lower_left plan q l) ≡ false) × (is_lower (lower_left plan q l) ≡ false)
whole_left_below plan q l = (lower_left_has (λ s. is_upper s ≡ false) plan q l refl refl refl refl, lower_left_has (λ s. is_lower s ≡ false) plan q l refl refl refl refl)

whole_right_below : (plan : Plan) (q l : ℕ) → (is_upper (lower_right plan q l) ≡ false) × (is_lower (lower_right plan q l) ≡ false)
whole_right_below plan q l = (lower_right_has (λ s. is_upper s ≡ false) plan q l refl refl refl refl, lower_right_has (λ s. is_lower s ≡ false) plan q l refl refl refl refl)

upper_joined : (plan : Plan) (q l : ℕ) → Joined (upper_part plan q l) (upper_part plan q (l + 1))
upper_joined plan q l =
    parts_joined plan q (upper_left plan q l) (in_body plan q l) (upper_right plan q l) (upper_left plan q (l + 1)) (in_body plan q (l + 1)) (upper_right plan q (l + 1))
    (joined_apart (upper_left plan q l) (upper_left plan q (l + 1)) (whole_left plan q l).0 (whole_left plan q (l + 1)).1)
    (body_joined (instrs_of plan (q - plan.latches)) l (instrs_sorted plan.columns (q - plan.latches)))
    (joined_apart (upper_right plan q l) (upper_right plan q (l + 1)) (whole_right plan q l).0 (whole_right plan q (l + 1)).1)

lower_joined : (plan : Plan) (q l : ℕ) → plan.lanes ≤ l → l + 1 < plan.lanes + plan.latches → Joined (lower_part plan q l) (lower_part plan q (l + 1))
lower_joined plan q l above below =
    let next : l + 1 - plan.lanes ≡ l - plan.lanes + 1 = omega arith in
    parts_joined plan q (lower_left plan q l) (on_return plan q l) (lower_right plan q l) (lower_left plan q (l + 1)) (on_return plan q (l + 1)) (lower_right plan q (l + 1))
    (joined_apart (lower_left plan q l) (lower_left plan q (l + 1)) (whole_left_below plan q l).0 (whole_left_below plan q (l + 1)).1)
    (subst (λ (off : ℕ). Joined (on_return plan q l) (return_slot plan.latches (end_of_body plan - 1 - q) off)) (sym next)
    (return_joined plan.latches (end_of_body plan - 1 - q) (l - plan.lanes) (omega arith)))
    (joined_apart (lower_right plan q l) (lower_right plan q (l + 1)) (whole_right_below plan q l).0 (whole_right_below plan q (l + 1)).1)

-- no half hangs over the ends
upper_ends : (plan : Plan) → IsAdmissible plan → (q l : ℕ) → plan.lanes ≤ l + 1 → is_upper (upper_part plan q l) ≡ false
upper_ends plan h q l last =
    either (λ s. is_upper s ≡ false) (ltb q plan.latches) (whole_left plan q l).0
    (either (λ s. is_upper s ≡ false) (ltb q (end_of_body plan))
    (body_ends (instrs_of plan (q - plan.latches)) l plan.lanes (instrs_on_lanes plan.lanes plan.columns (q - plan.latches) h.instrs) last)
    (whole_right plan q l).0)

lower_ends : (plan : Plan) (q l : ℕ) → plan.lanes ≤ l → plan.lanes + plan.latches ≤ l + 1 → is_upper (lower_part plan q l) ≡ false
lower_ends plan q l above last =
    either (λ s. is_upper s ≡ false) (ltb q plan.latches) (whole_left_below plan q l).0
    (either (λ s. is_upper s ≡ false) (ltb q (end_of_body plan))
    (return_ends plan.latches (end_of_body plan - 1 - q) (l - plan.lanes) (omega arith))
    (whole_right_below plan q l).0)

lower_begins : (plan : Plan) (q l : ℕ) → l ≡ plan.lanes → is_lower (tiling_of plan q l) ≡ false
lower_begins plan q l first =
    ⊎_elim
    (λ loops. (ap is_lower (tiling_of-lower plan q l (omega arith) (omega arith))
    ∙ either (λ s. is_lower s ≡ false) (ltb q plan.latches) (whole_left_below plan q l).1
    (either (λ s. is_lower s ≡ false) (ltb q (end_of_body plan))
    (return_begins plan.latches (end_of_body plan - 1 - q) (l - plan.lanes) (omega arith))
    (whole_right_below plan q l).1)))
    (λ none. ap is_lower (tiling_of-below plan q l (omega arith)))
    (cases_lt 0 plan.latches)

upper_begins : (plan : Plan) (q : ℕ) → is_lower (upper_part plan q 0) ≡ false
upper_begins plan q =
    either (λ s. is_lower s ≡ false) (ltb q plan.latches) (whole_left plan q 0).1
    (either (λ s. is_lower s ≡ false) (ltb q (end_of_body plan)) (body_begins (instrs_of plan (q - plan.latches))) (whole_right plan q 0).1)

all_joined : (plan : Plan) → IsAdmissible plan → (q l : ℕ) → Joined (tiling_of plan q l) (tiling_of plan q (l + 1))
all_joined plan h q l =
    ⊎_elim
    (λ above. ⊎_elim
    (λ next. same_joined _ _ _ _ (tiling_of-upper plan q l above) (tiling_of-upper plan q (l + 1) next) (upper_joined plan q l))
    (λ last. joined_apart (tiling_of plan q l) (tiling_of plan q (l + 1))
    (ap is_upper (tiling_of-upper plan q l above) ∙ upper_ends plan h q l last)
    (lower_begins plan q (l + 1) (omega arith)))
    (cases_lt (l + 1) plan.lanes))
    (λ below. ⊎_elim
    (λ within. ⊎_elim
    (λ next. same_joined _ _ _ _ (tiling_of-lower plan q l below within) (tiling_of-lower plan q (l + 1) (omega arith) next) (lower_joined plan q l below next))
    (λ last. joined_apart (tiling_of plan q l) (tiling_of plan q (l + 1))
    (ap is_upper (tiling_of-lower plan q l below within) ∙ lower_ends plan q l below last)
    (ap is_lower (tiling_of-below plan q (l + 1) last)))
    (cases_lt (l + 1) (plan.lanes + plan.latches)))
    (λ out. same_joined _ _ _ _ (tiling_of-below plan q l out) (tiling_of-below plan q (l + 1) (omega arith)) refl)
    (cases_lt l (plan.lanes + plan.latches)))
    (cases_lt l plan.lanes)

first_is_whole : (plan : Plan) (q : ℕ) → is_lower (tiling_of plan q 0) ≡ false
first_is_whole plan q =
    ⊎_elim
    (λ some. ap is_lower (tiling_of-upper plan q 0 some) ∙ upper_begins plan q)
    (λ none. lower_begins plan q 0 (omega arith))
    (cases_lt 0 plan.lanes)

lower_has_upper : (s t : Slot) (p : Piece) → Joined s t → t ≡ Lower p → s ≡ Upper p
lower_has_upper Nothing t p j e = cc
lower_has_upper (Whole r) t p j e = cc
lower_has_upper (Upper r) t p j e = cc
lower_has_upper (Lower r) t p j e = cc

whole_pieces : (plan : Plan) → IsAdmissible plan → HasWholePieces (tiling_of plan)
whole_pieces plan h = record {
  one = λ q l p e. subst HasHeight e (heights plan q l);
  two = λ q l p e. subst HasHeight e (heights plan q l);
  below = λ q l p e. subst (λ (s : Slot). Joined s (tiling_of plan q (l + 1))) e (all_joined plan h q l);
  above = λ q l p e. lower_has_upper (tiling_of plan q l) (tiling_of plan q (l + 1)) p (all_joined plan h q l) e;
  first = λ q p e. (let w = first_is_whole plan q in cc);
}

-- the tiles of an admissible plan fit together
pub tiling_is_matched : (plan : Plan) → IsAdmissible plan → IsMatched (tiling_of plan)
tiling_is_matched plan h = record {
  pieces = whole_pieces plan h;
  entries_beside = λ q l. ⊎_elim
      (λ east. none_left _ _ (east q).entered)
      (λ west. none_right _ _ (west (q + 1)).entered)
      (lane_goes plan l);
  exits_beside = λ q l. ⊎_elim
      (λ east. none_right _ _ (east (q + 1)).left)
      (λ west. none_left _ _ (west q).left)
      (lane_goes plan l);
  entries_above = λ q l. ⊎_elim
      (λ up. none_right _ _ (up (l + 1)).entered)
      (λ down. none_left _ _ (down l).entered)
      (column_goes plan q);
  exits_above = λ q l. ⊎_elim
      (λ up. none_left _ _ (up l).left)
      (λ down. none_right _ _ (down (l + 1)).left)
      (column_goes plan q);
}
