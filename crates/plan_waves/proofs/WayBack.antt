-- A signal on the way back of its loop, where swaps reverse the order of the lanes.
--
-- With `back` columns behind it, a signal `off` lanes below the body is moved down one lane by the next column of swaps
-- where `off` and `back` are both even or both odd, and up else, but stays where there is no lane beyond. So it goes one
-- way, stays once at the border, and goes the other way, until it has as many columns behind it as there are loops.
use Rattle.std.proofs.Common.{◌≡◌, ◌≢◌, refl, ◌∙◌, ap, subst, ℕ, ◌+◌, ◌-◌, ◌%◌, ◌<◌, ◌≤◌, true, false, ◌&&◌, ltb, ⊎_elim, length, arith}
use Rattle.std.specs.Prelude.{◌==◌}
use Rattle.std.proofs.lemmas.Bool.{cases_eq, cond-true, cond-false}
use Rattle.std.proofs.lemmas.Bool.Decides.{nat_tests}
use Rattle.tile_core.specs.declared.kind.Kind.TheVariants as kind
use Rattle.tiling.specs.Tiling.{Edge, Lit}
use Rattle.tiling.specs.Tiling.Piece.{Tile}
use Rattle.tiling.specs.Tiling.Slot.{Whole, Upper, Lower}
use Rattle.tiling.specs.Tiling.Edge.{Beside}
use Rattle.lane_core.specs.declared.plan.Plan.{Plan}
use Rattle.lane_core.specs.Plans.{IsAdmissible}
use Rattle.plan_layout.specs.Layout.{return_slot, end_of_body, tiling_of}
use Rattle.plan_layout.proofs.Matched.{tiling_is_matched}
use Rattle.plan_waves.specs.Waves.{GoesOn}
use Rattle.plan_waves.proofs.Passing.{beside_same, west_passes, upper_swap_passes, lower_swap_passes}
use Rattle.plan_layout.proofs.Parts.{return_at}
use Rattle.plan_waves.proofs.Paths.{Reaches, Follows, passed_on, loop_lane, below_body, below_inside, once, joined, renamed, chain, west}

-- what stands on the way back, by the two tests
upper_half : (loops back off : ℕ) → back < loops → off % 2 ≡ back % 2 → off + 1 < loops → return_slot loops back off ≡ Upper (Tile kind.WestSwap)
upper_half loops back off swaps same within =
    let yes : (ltb back loops && off % 2 == back % 2 && ltb (off + 1) loops) ≡ true = grind (arith, nat_tests) in
    cond-true _ _ _ yes

lower_half : (loops back off : ℕ) → back < loops → off % 2 ≢ back % 2 → 0 < off → return_slot loops back off ≡ Lower (Tile kind.WestSwap)
lower_half loops back off swaps differ some =
    let other : (off + 1) % 2 ≡ back % 2 = omega arith in
    let no : (ltb back loops && off % 2 == back % 2 && ltb (off + 1) loops) ≡ false = grind (arith, nat_tests) in
    let yes : (ltb back loops && (off + 1) % 2 == back % 2 && ltb 0 off) ≡ true = grind (arith, nat_tests) in
    cond-false _ _ _ no ∙ cond-true _ _ _ yes

lowest : (loops back off : ℕ) → off % 2 ≡ back % 2 → off + 1 ≡ loops → return_slot loops back off ≡ Whole (Tile kind.West)
lowest loops back off same last =
    let other : (off + 1) % 2 ≢ back % 2 = omega arith in
    let no : (ltb back loops && off % 2 == back % 2 && ltb (off + 1) loops) ≡ false = grind (arith, nat_tests) in
    let no' : (ltb back loops && (off + 1) % 2 == back % 2 && ltb 0 off) ≡ false = grind (arith, nat_tests) in
    cond-false _ _ _ no ∙ cond-false _ _ _ no'

highest : (loops back off : ℕ) → off % 2 ≢ back % 2 → off ≡ 0 → return_slot loops back off ≡ Whole (Tile kind.West)
highest loops back off differ first =
    let no : (ltb back loops && off % 2 == back % 2 && ltb (off + 1) loops) ≡ false = grind (arith, nat_tests) in
    let no' : (ltb back loops && (off + 1) % 2 == back % 2 && ltb 0 off) ≡ false = grind (arith, nat_tests) in
    cond-false _ _ _ no ∙ cond-false _ _ _ no'

beyond : (loops back off : ℕ) → loops ≤ back → return_slot loops back off ≡ Whole (Tile kind.West)
beyond loops back off far =
    let no : (ltb back loops && off % 2 == back % 2 && ltb (off + 1) loops) ≡ false = grind (arith, nat_tests) in
    let no' : (ltb back loops && (off + 1) % 2 == back % 2 && ltb 0 off) ≡ false = grind (arith, nat_tests) in
    cond-false _ _ _ no ∙ cond-false _ _ _ no'

-- the edge with so many columns behind it, so many lanes below the body
abbrev pub way : Plan → ℕ → ℕ → Edge
way plan back off = Beside (end_of_body plan - back) (plan.lanes + off)

-- the block behind it
block : (plan : Plan) (back off : ℕ) → back < length plan.columns → off < plan.latches
    → tiling_of plan (end_of_body plan - (back + 1)) (plan.lanes + off) ≡ return_slot plan.latches back off
block plan back off within low =
    let q : end_of_body plan - 1 - (end_of_body plan - (back + 1)) ≡ back = omega arith in
    let l : plan.lanes + off - plan.lanes ≡ off = omega arith in
    return_at plan (end_of_body plan - (back + 1)) (plan.lanes + off) (omega arith) (omega arith) (omega arith) (omega arith)
    ∙ ap (λ n. return_slot plan.latches n (plan.lanes + off - plan.lanes)) q ∙ ap (λ n. return_slot plan.latches back n) l

-- one column further: down, up, or straight on
one_down : (plan : Plan) → IsAdmissible plan → (edges : ℕ → Lit) → GoesOn plan edges → (back off : ℕ)
    → back < plan.latches → off % 2 ≡ back % 2 → off + 1 < plan.latches → Follows plan edges (way plan back off) (way plan (back + 1) (off + 1))
one_down plan h edges g back off swaps same within =
    let fits = h.size.loops_in_columns in
    passed_on plan edges g (way plan back off) (way plan (back + 1) (off + 1)) (below_body plan (end_of_body plan - back) (plan.lanes + off) (omega arith)) (loop_lane plan (end_of_body plan - (back + 1)) (plan.lanes + (off + 1)) (omega arith)) (below_inside plan (end_of_body plan - (back + 1)) (plan.lanes + (off + 1)) (omega arith))
    (lower_swap_passes (tiling_of plan) (tiling_is_matched plan h) (end_of_body plan - (back + 1)) (end_of_body plan - back) (plan.lanes + (off + 1)) (plan.lanes + off)
    (omega arith) (omega arith) (block plan back (off + 1) (omega arith) within ∙ lower_half plan.latches back (off + 1) swaps (omega arith) (omega arith)))

one_up : (plan : Plan) → IsAdmissible plan → (edges : ℕ → Lit) → GoesOn plan edges → (back off : ℕ)
    → back < plan.latches → off % 2 ≡ back % 2 → off + 1 < plan.latches → Follows plan edges (way plan back (off + 1)) (way plan (back + 1) off)
one_up plan h edges g back off swaps same within =
    let fits = h.size.loops_in_columns in
    passed_on plan edges g (way plan back (off + 1)) (way plan (back + 1) off) (below_body plan (end_of_body plan - back) (plan.lanes + (off + 1)) (omega arith)) (loop_lane plan (end_of_body plan - (back + 1)) (plan.lanes + off) (omega arith)) (below_inside plan (end_of_body plan - (back + 1)) (plan.lanes + off) (omega arith))
    (upper_swap_passes (tiling_of plan) (tiling_is_matched plan h) (end_of_body plan - (back + 1)) (end_of_body plan - back) (plan.lanes + off) (plan.lanes + (off + 1))
    (omega arith) (omega arith) (block plan back off (omega arith) (omega arith) ∙ upper_half plan.latches back off swaps same within))

straight_on : (plan : Plan) → IsAdmissible plan → (edges : ℕ → Lit) → GoesOn plan edges → (back off : ℕ)
    → back < length plan.columns → off < plan.latches → return_slot plan.latches back off ≡ Whole (Tile kind.West) → Follows plan edges (way plan back off) (way plan (back + 1) off)
straight_on plan h edges g back off within low tile =
    passed_on plan edges g (way plan back off) (way plan (back + 1) off) (below_body plan (end_of_body plan - back) (plan.lanes + off) (omega arith)) (loop_lane plan (end_of_body plan - (back + 1)) (plan.lanes + off) (omega arith)) (below_inside plan (end_of_body plan - (back + 1)) (plan.lanes + off) (omega arith))
    (west_passes (tiling_of plan) (tiling_is_matched plan h) (end_of_body plan - (back + 1)) (end_of_body plan - back) (plan.lanes + off)
    (omega arith) (block plan back off within low ∙ tile))

way_same : (plan : Plan) (b b' o o' : ℕ) → b ≡ b' → o ≡ o' → way plan b o ≡ way plan b' o'
way_same plan b b' o o' e f = ap (λ n. way plan n o) e ∙ ap (way plan b') f

rejoined : (plan : Plan) (edges : ℕ → Lit) (first first' last last' : Edge) → first ≡ first' → last ≡ last' → Follows plan edges first last → Follows plan edges first' last'
rejoined plan edges first first' last last' e f step = subst (λ (a : Edge). Follows plan edges a last') e (subst (λ (b : Edge). Follows plan edges first b) f step)

-- so many columns down, and up
down : (plan : Plan) → IsAdmissible plan → (edges : ℕ → Lit) → GoesOn plan edges → (n back off : ℕ)
    → back + n ≤ plan.latches → off % 2 ≡ back % 2 → off + n < plan.latches → Reaches plan edges n (way plan back off) (way plan (back + n) (off + n))
down plan h edges g n back off swaps same within =
    renamed plan edges n n (way plan (back + 0) (off + 0)) (way plan back off) _ _ refl (way_same plan (back + 0) back (off + 0) off (omega arith) (omega arith)) refl
    (chain plan edges (λ t. way plan (back + t) (off + t)) n (λ t low.
    rejoined plan edges _ _ _ _ refl (way_same plan (back + t + 1) (back + (t + 1)) (off + t + 1) (off + (t + 1)) (omega arith) (omega arith))
    (one_down plan h edges g (back + t) (off + t) (omega arith) (omega arith) (omega arith))))

up : (plan : Plan) → IsAdmissible plan → (edges : ℕ → Lit) → GoesOn plan edges → (n back off : ℕ)
    → back + n ≤ plan.latches → (off + n) % 2 ≢ back % 2 → off + n < plan.latches → Reaches plan edges n (way plan back (off + n)) (way plan (back + n) off)
up plan h edges g n back off swaps differ within =
    renamed plan edges n n (way plan (back + 0) (off + (n - 0))) (way plan back (off + n)) (way plan (back + n) (off + (n - n))) (way plan (back + n) off) refl
    (way_same plan (back + 0) back (off + (n - 0)) (off + n) (omega arith) (omega arith)) (way_same plan (back + n) (back + n) (off + (n - n)) off refl (omega arith))
    (chain plan edges (λ t. way plan (back + t) (off + (n - t))) n (λ t low.
    rejoined plan edges _ _ _ _
    (way_same plan (back + t) (back + t) (off + (n - (t + 1)) + 1) (off + (n - t)) refl (omega arith))
    (way_same plan (back + t + 1) (back + (t + 1)) (off + (n - (t + 1))) (off + (n - (t + 1))) (omega arith) refl)
    (one_up plan h edges g (back + t) (off + (n - (t + 1))) (omega arith) (omega arith) (omega arith))))

-- the columns of swaps bring the lanes into reverse order
reversed_even : (plan : Plan) → IsAdmissible plan → (edges : ℕ → Lit) → GoesOn plan edges → (loop : ℕ) → loop < plan.latches → loop % 2 ≡ 0
    → Reaches plan edges plan.latches (way plan 0 loop) (way plan plan.latches (plan.latches - 1 - loop))
reversed_even plan h edges g loop inside even =
    let fits = h.size.loops_in_columns in
    let rest = plan.latches - 1 - loop in
    let first : Reaches plan edges rest (way plan 0 loop) (way plan rest (plan.latches - 1)) =
    renamed plan edges _ _ _ _ _ _ refl refl (way_same plan (0 + rest) rest (loop + rest) (plan.latches - 1) (omega arith) (omega arith))
    (down plan h edges g rest 0 loop (omega arith) (omega arith) (omega arith)) in
    let border : Reaches plan edges 1 (way plan rest (plan.latches - 1)) (way plan (rest + 1) (plan.latches - 1)) =
    once plan edges _ _ (straight_on plan h edges g rest (plan.latches - 1) (omega arith) (omega arith) (lowest plan.latches rest (plan.latches - 1) (omega arith) (omega arith))) in
    let last : Reaches plan edges loop (way plan (rest + 1) (plan.latches - 1)) (way plan plan.latches rest) =
    renamed plan edges _ _ _ _ _ _ refl (way_same plan (rest + 1) (rest + 1) (rest + loop) (plan.latches - 1) refl (omega arith)) (way_same plan (rest + 1 + loop) plan.latches rest rest (omega arith) refl)
    (up plan h edges g loop (rest + 1) rest (omega arith) (omega arith) (omega arith)) in
    renamed plan edges (rest + (1 + loop)) plan.latches _ _ _ _ (omega arith) refl refl (joined plan edges _ _ _ _ _ first (joined plan edges _ _ _ _ _ border last))

reversed_odd : (plan : Plan) → IsAdmissible plan → (edges : ℕ → Lit) → GoesOn plan edges → (loop : ℕ) → loop < plan.latches → loop % 2 ≡ 1
    → Reaches plan edges plan.latches (way plan 0 loop) (way plan plan.latches (plan.latches - 1 - loop))
reversed_odd plan h edges g loop inside odd =
    let fits = h.size.loops_in_columns in
    let rest = plan.latches - 1 - loop in
    let first : Reaches plan edges loop (way plan 0 loop) (way plan loop 0) =
    renamed plan edges _ _ _ _ _ _ refl (way_same plan 0 0 (0 + loop) loop refl (omega arith)) (way_same plan (0 + loop) loop 0 0 (omega arith) refl)
    (up plan h edges g loop 0 0 (omega arith) (omega arith) (omega arith)) in
    let border : Reaches plan edges 1 (way plan loop 0) (way plan (loop + 1) 0) =
    once plan edges _ _ (straight_on plan h edges g loop 0 (omega arith) (omega arith) (highest plan.latches loop 0 (omega arith) refl)) in
    let last : Reaches plan edges rest (way plan (loop + 1) 0) (way plan plan.latches rest) =
    renamed plan edges _ _ _ _ _ _ refl refl (way_same plan (loop + 1 + rest) plan.latches (0 + rest) rest (omega arith) (omega arith))
    (down plan h edges g rest (loop + 1) 0 (omega arith) (omega arith) (omega arith)) in
    renamed plan edges (loop + (1 + rest)) plan.latches _ _ _ _ (omega arith) refl refl (joined plan edges _ _ _ _ _ first (joined plan edges _ _ _ _ _ border last))

reversed : (plan : Plan) → IsAdmissible plan → (edges : ℕ → Lit) → GoesOn plan edges → (loop : ℕ) → loop < plan.latches
    → Reaches plan edges plan.latches (way plan 0 loop) (way plan plan.latches (plan.latches - 1 - loop))
reversed plan h edges g loop inside =
    ⊎_elim
    (λ even. reversed_even plan h edges g loop inside even)
    (λ other. reversed_odd plan h edges g loop inside (omega arith))
    (cases_eq (loop % 2) 0)

-- the whole way back, from the right turn of a loop to the left turn that has the others inside it
pub way_back : (plan : Plan) → IsAdmissible plan → (edges : ℕ → Lit) → GoesOn plan edges → (loop : ℕ) → loop < plan.latches
    → Reaches plan edges (length plan.columns) (Beside (end_of_body plan) (plan.lanes + loop)) (Beside plan.latches (plan.lanes + (plan.latches - 1 - loop)))
way_back plan h edges g loop inside =
    let fits = h.size.loops_in_columns in
    let rest = plan.latches - 1 - loop in
    let more = length plan.columns - plan.latches in
    let straight : Reaches plan edges more (way plan plan.latches rest) (Beside plan.latches (plan.lanes + rest)) =
    renamed plan edges _ _ _ _ _ _ refl (beside_same (plan.latches + more) (end_of_body plan - plan.latches) (plan.lanes + rest) (plan.lanes + rest) (omega arith) refl) refl
    (west plan h edges g more plan.latches (plan.lanes + rest) (omega arith) (λ t w. tile t w)) in
    renamed plan edges (plan.latches + more) (length plan.columns) _ _ _ _ (omega arith) (beside_same (end_of_body plan - 0) (end_of_body plan) _ _ (omega arith) refl) refl
    (joined plan edges _ _ _ _ _ (reversed plan h edges g loop inside) straight)
  where
    tile : (t : ℕ) → t < length plan.columns - plan.latches → tiling_of plan (plan.latches + t) (plan.lanes + (plan.latches - 1 - loop)) ≡ Whole (Tile kind.West)
    tile t w =
        let back = length plan.columns - 1 - t in
        let here : plan.latches + t ≡ end_of_body plan - (back + 1) = omega arith in
        ap (λ q. tiling_of plan q (plan.lanes + (plan.latches - 1 - loop))) here
        ∙ block plan back (plan.latches - 1 - loop) (omega arith) (omega arith)
        ∙ beyond plan.latches back (plan.latches - 1 - loop) (omega arith)
