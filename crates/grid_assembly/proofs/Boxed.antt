-- Outside its box a plan's drawing is empty.
use Rattle.std.proofs.Common.{◌≡◌, refl, sym, ◌∙◌, ap, subst, pos, negsuc, ℕ, ◌+◌, ◌-◌, ◌*◌, ◌/◌, ◌%◌, ◌<◌, ◌≤◌, Bool, true, false, ◌&&◌, cond, ltb, ⊎_elim, inl, [], ◌∷◌, length, arith}
use Rattle.std.specs.Prelude.{◌==◌, nat_lt}
use Rattle.std.specs.List.{list_any}
use Rattle.std.proofs.lemmas.Bool.{true≢false, cases_lt, cond-false, cond-true, and_parts, eqb-true}
use Rattle.std.proofs.lemmas.Bool.Decides.{nat_tests}
use Rattle.ww_rule.specs.declared.pattern.State.TheVariants.{Empty, Head, Tail, Conductor}
use Rattle.ww_rule.specs.Grid.{IsEmptyOutside}
use Rattle.tile_core.specs.declared.kind.Kind.{Kind}
use Rattle.tile_core.specs.declared.kind.Kind.TheVariants as kind
use Rattle.tile_core.specs.Drawing.{Drawing, is_cell_of}
use Rattle.tile_core.specs.Interface.{cell_at}
use Rattle.tiling.specs.Tiling.{Slot, Lit, drawn, drawn_slot, output_interface, heads_of, tails_of}
use Rattle.tiling.specs.Tiling.Piece.{Output}
use Rattle.tiling.specs.Tiling.Slot.{Nothing, Whole}
use Rattle.lane_core.specs.declared.plan.Plan.{Plan}
use Rattle.lane_core.specs.Plans.{IsAdmissible, size_of}
use Rattle.plan_layout.specs.Layout.{turn_slot, end_of_body, upper_left, in_body, upper_right, lower_left, on_return, lower_right, tiling_of}
use Rattle.plan_layout.proofs.Columns.{by_column-right}
use Rattle.plan_layout.proofs.Matched.{tiling_of-upper, tiling_of-lower, tiling_of-below}
use Rattle.lane_core.specs.Tape.{tape_tiles, tape_shift}
use Rattle.plan_layout.specs.Tape.{drawn_tiling, drawn_edges, drawn_plane}
use Rattle.plan_layout.proofs.Taped.{plan_block}
use Rattle.macro_grid.proofs.Drawings.{drawn_below}

turn_none : (loops away off : ℕ) (along corner across : Kind) → loops ≤ away → turn_slot loops away off along corner across ≡ Nothing
turn_none loops away off along corner across far =
    let no : (ltb away loops && ltb off loops) ≡ false = grind (arith, nat_tests) in
    cond-false (ltb away loops && ltb off loops) _ Nothing no

-- past the right turns nothing stands, but the cells of outputs where there are no turns
data Beyond (plan : Plan) (q : ℕ) (slot : Slot) : Type 0 where
  nothing : slot ≡ Nothing → Beyond plan q slot
  output : slot ≡ Whole Output → plan.latches ≡ 0 → q ≡ end_of_body plan → Beyond plan q slot

module _ (plan : Plan) (h : IsAdmissible plan) where
  beyond : (q l : ℕ) → end_of_body plan + plan.latches ≤ q → (b : Bool) → (q == end_of_body plan && list_any (λ out. out == l) plan.outs) ≡ b → Beyond plan q (upper_right plan q l)
  beyond q l far false e =
      nothing (cond-false (q == end_of_body plan && list_any (λ out. out == l) plan.outs) (Whole Output) _ e ∙ turn_none plan.latches (q - end_of_body plan) (plan.lanes - 1 - l) kind.East kind.EastSouth kind.South (omega (arith, far)))
  beyond q l far true e =
      output (cond-true (q == end_of_body plan && list_any (λ out. out == l) plan.outs) (Whole Output) _ e) (omega (arith, far, here e)) (here e)
    where
      here : (q == end_of_body plan && list_any (λ out. out == l) plan.outs) ≡ true → q ≡ end_of_body plan
      here e = eqb-true q (end_of_body plan) (and_parts (q == end_of_body plan) (list_any (λ out. out == l) plan.outs) e).0

  far_east : (q l : ℕ) → end_of_body plan + plan.latches ≤ q → Beyond plan q (tiling_of plan q l)
  far_east q l far =
      ⊎_elim
      (λ above. subst (λ (s : Slot). Beyond plan q s)
      (sym (tiling_of-upper plan q l above ∙ by_column-right plan q (upper_left plan q l) (in_body plan q l) (upper_right plan q l) (omega (arith, far))))
      (beyond q l far (q == end_of_body plan && list_any (λ out. out == l) plan.outs) refl))
      (λ below. nothing (⊎_elim
      (λ within. (tiling_of-lower plan q l below within ∙ by_column-right plan q (lower_left plan q l) (on_return plan q l) (lower_right plan q l) (omega (arith, far))
      ∙ turn_none plan.latches (q - end_of_body plan) (l - plan.lanes) kind.West kind.SouthWest kind.South (omega (arith, far))))
      (λ out. tiling_of-below plan q l out)
      (cases_lt l (plan.lanes + plan.latches))))
      (cases_lt l plan.lanes)

output_empty : (library : Kind → Drawing) (lit : Lit) (q l x y : ℕ) → 0 < x → drawn_slot library lit q l (Whole Output) x y ≡ Empty
output_empty library lit q l x y some = off (is_cell_of (pos x) (pos y) (cell_at (0, 8) ∷ [])) none
  where
    none : is_cell_of (pos x) (pos y) (cell_at (0, 8) ∷ []) ≡ false
    none = grind (arith, nat_tests)

    off : (b : Bool) → b ≡ false → cond b (cond (is_cell_of (pos x) (pos y) (heads_of lit q l output_interface)) Head (cond (is_cell_of (pos x) (pos y) (tails_of lit q l output_interface)) Tail Conductor)) Empty ≡ Empty
    off true e = absurd (true≢false e)
    off false e = refl

beyond_empty : (library : Kind → Drawing) (lit : Lit) (q l x y : ℕ) (plan : Plan) (p : ℕ) (slot : Slot) → Beyond plan p slot → (plan.latches ≡ 0 → p ≡ end_of_body plan → 0 < x) → drawn_slot library lit q l slot x y ≡ Empty
beyond_empty library lit q l x y plan p slot (nothing e) some = ap (λ s. drawn_slot library lit q l s x y) e
beyond_empty library lit q l x y plan p slot (output e none at) some = ap (λ s. drawn_slot library lit q l s x y) e ∙ output_empty library lit q l x y (some none at)

pub stays_in_box : (library : Kind → Drawing) (plan : Plan) → IsAdmissible plan → IsEmptyOutside (size_of plan).0 (size_of plan).1 (drawn_plane library plan)
stays_in_box library plan h (negsuc x) y out = refl
stays_in_box library plan h (pos x) (negsuc y) out = refl
stays_in_box library plan h (pos x) (pos y) out =
    ⊎_elim
    (λ high. ⊎_elim
    (λ bare. absurd (omega (arith, high, bare, h.size.loops_on_lanes)))
    (λ some. east high (far high some))
    (cases_lt plan.lanes 1))
    (λ low. ap (λ s. drawn_slot library (drawn_edges plan) (x / 32) (y / 16) s (x % 32) (y % 16)) (drawn_below plan h (x / 32) (y / 16) low))
    (cases_lt (y / 16) (plan.lanes + plan.latches))
  where
    width : ℕ
    width = 32 * (tape_shift plan + (length plan.columns + 2 * plan.latches)) + 1

    height : ℕ
    height = 16 * (plan.lanes + plan.latches)

    sized : Bool → ℕ × ℕ
    sized b = cond b (0, 0) (width, height)

    past : (b : Bool) → b ≡ false → (nat_lt x (sized b).0 && nat_lt y (sized b).1) ≡ false → (nat_lt x width && nat_lt y height) ≡ false
    past true e f = absurd (true≢false e)
    past false e f = f

    far : y / 16 < plan.lanes + plan.latches → 1 ≤ plan.lanes → width ≤ x
    far high some =
        let lanes : (plan.lanes == 0) ≡ false = grind (arith, nat_tests) in
        let f : (nat_lt x width && nat_lt y height) ≡ false = past (plan.lanes == 0) lanes out in
        let within : y < height = omega (arith, high) in
        grind (arith, nat_tests)

    east : y / 16 < plan.lanes + plan.latches → width ≤ x → drawn library (drawn_tiling plan) (drawn_edges plan) (pos x) (pos y) ≡ Empty
    east high wide =
        let q = x / 32 - tape_shift plan in
        let place : tape_shift plan + q ≡ x / 32 = omega (arith, wide) in
        let right : end_of_body plan + plan.latches ≤ q = omega (arith, wide) in
        ap (λ s. drawn_slot library (drawn_edges plan) (x / 32) (y / 16) s (x % 32) (y % 16))
        (ap (λ n. drawn_tiling plan n (y / 16)) (sym place) ∙ plan_block plan h (tape_shift plan) (tape_tiles plan) q (y / 16) (inl (omega (arith, right))))
        ∙ beyond_empty library (drawn_edges plan) (x / 32) (y / 16) (x % 32) (y % 16) plan q (tiling_of plan q (y / 16)) (far_east plan h q (y / 16) right) (λ none at. omega (arith, wide, none, at, place))
