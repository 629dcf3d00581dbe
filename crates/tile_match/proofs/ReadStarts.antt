-- Which loops of a circuit start with 1 is seen where they enter the body.
use Rattle.std.proofs.Common.{pos, ◌≡◌, refl, sym, ◌∙◌, ap, ap₂, ℕ, zero, suc, ◌+◌, ◌-◌, ◌*◌, ◌<◌, ◌≤◌, Bool, true, false, ◌&&◌, ◌||◌, ◌==◌, cond, List, [], ◌∷◌, ◌++◌, length, get_or, arith}
use Rattle.std.specs.Prelude.{◌↔◌, All}
use Rattle.std.proofs.Math.Bool.{or-false}
use Rattle.std.proofs.lemmas.Bool.Decides.{nat_tests}
use Rattle.std.proofs.lemmas.List.Elements.{All-head, All-tail}
use Rattle.std.proofs.lemmas.List.FromFn.{length-map-range_with_len, get_or-map-range_with_len}
use Rattle.ww_rule.specs.declared.pattern.State.{State}
use Rattle.ww_rule.specs.declared.pattern.State.TheVariants.{Empty, Head, Tail, Conductor}
use Rattle.ww_rule.specs.Wireworld.{is_head}
use Rattle.tile_library.specs.Drawings.{shipped_drawing}
use Rattle.tile_library.proofs.Kept.{shipped_keeps_law}
use Rattle.tiling.specs.Tiling.{drawn}
use Rattle.tiling.specs.Tiling.Edge.{Beside}
use Rattle.tiling.specs.Matched.{is_entered}
use Rattle.tiling.proofs.Shown.{shows_edges}
use Rattle.lane_core.specs.declared.starts.Start.{Start}
use Rattle.lane_core.specs.declared.plan.Plan.{Plan}
use Rattle.lane_core.specs.declared.instr.Instr.{Instr}
use Rattle.lane_core.specs.declared.instr.Instr.TheVariants as instr
use Rattle.lane_core.specs.Plans.{row_of}
use Rattle.lane_core.specs.Starts.{is_start_at}
use Rattle.lane_core.specs.Entering.{first_loop_lane}
use Rattle.circuit_plans.specs.Circuits.{IsCircuit, IsLoopStart, loop_start, starts_with_one, starts_from, starts_where}
use Rattle.circuit_plans.proofs.Ordered.{starts_are_of_loops}
use Rattle.tiling.specs.Tiling.{Slot}
use Rattle.tiling.specs.Tiling.Piece.{Tile}
use Rattle.tiling.specs.Tiling.Slot.{Upper, Lower}
use Rattle.plan_layout.specs.Starts.{start_edges}
use Rattle.plan_layout.specs.Layout.{kind_of, in_body, tiling_of}
use Rattle.plan_layout.proofs.Bare.{bare}
use Rattle.plan_layout.proofs.Matched.{tiling_is_matched}
use Rattle.plan_layout.proofs.Parts.{some_columns, body_at}
use Rattle.plan_layout.proofs.Sides.{in_body_has}
use Rattle.grid_assembly.specs.PlanDrawing.{start_grid}
use Rattle.grid_assembly.proofs.Pattern.{patterns_are_planes}
use Rattle.tile_match.specs.Blocks.{cell_shown, column_start, bit_shown, bits_shown}

head_test : (state : State) (lit : Bool) → ((state ≡ Head) ↔ (lit ≡ true)) → is_head state ≡ lit
head_test Head lit h = sym (h.0 refl)
head_test Empty false h = refl
head_test Tail false h = refl
head_test Conductor false h = refl
head_test Empty true h = let e : Empty ≡ Head = h.1 refl in cc
head_test Tail true h = let e : Tail ≡ Head = h.1 refl in cc
head_test Conductor true h = let e : Conductor ≡ Head = h.1 refl in cc

-- the body is entered at its west side
abbrev IsEntry : Slot → Type 0
IsEntry slot = is_entered slot 0 8 ≡ true

entry_kind : (i : Instr) → IsEntry (Upper (Tile (kind_of i))) × IsEntry (Lower (Tile (kind_of i)))
entry_kind (instr.Swap i) = (refl, refl)
entry_kind (instr.Fork i) = (refl, refl)
entry_kind (instr.Xor i) = (refl, refl)
entry_kind (instr.Or i) = (refl, refl)
entry_kind (instr.AndNot i) = (refl, refl)

body_entry : (plan : Plan) (q l : ℕ) → IsEntry (in_body plan q l)
body_entry plan q l = in_body_has IsEntry plan q l refl entry_kind

-- the cell at which a lane enters the body
entry_is : (plan : Plan) → IsCircuit plan → (lane : ℕ) → lane < plan.lanes
    → is_head (cell_shown (start_grid plan).rows (column_start plan.latches 0) (row_of lane)) ≡ start_edges plan (Beside plan.latches lane)
entry_is plan h lane low =
    let some : 0 < length plan.columns = some_columns plan h.admissible (omega arith) in
    let entered : is_entered (tiling_of plan plan.latches lane) 0 8 ≡ true =
    ap (λ slot. is_entered slot 0 8) (body_at plan plan.latches lane (omega arith) (omega arith) low) ∙ body_entry plan plan.latches lane in
    let shown = (shows_edges shipped_drawing shipped_keeps_law (tiling_of plan) (tiling_is_matched plan h.admissible) (start_edges plan)).entry plan.latches lane 0 (omega arith) entered in
    let column : column_start plan.latches 0 ≡ 32 * plan.latches = omega arith in
    ap (λ x. is_head (cell_shown (start_grid plan).rows x (row_of lane))) column
    ∙ ap (λ p. is_head (p (pos (32 * plan.latches)) (pos (row_of lane)))) ((patterns_are_planes plan h.admissible).plane ∙ (bare plan h.no_tape).plane shipped_drawing)
    ∙ head_test (drawn shipped_drawing (tiling_of plan) (start_edges plan) (pos (32 * plan.latches)) (pos (16 * lane + 8))) (start_edges plan (Beside plan.latches lane))
    (λ head. (shown.0 head).1, λ lit. shown.1 (refl, lit))

-- no loop starts west of the edges at which loops enter
none_west : (lanes loops y : ℕ) (starts : List Start) → All (IsLoopStart lanes loops) starts → is_start_at starts (32 * loops - 1) y ≡ false
none_west lanes loops y [] all = refl
none_west lanes loops y (start ∷ starts) all =
    let first : IsLoopStart lanes loops start = All-head (IsLoopStart lanes loops) start starts all in
    let some : first.0 < loops = first.1 in
    let here : start.x ≡ 32 * loops = ap (λ (s : Start). s.x) first.2 in
    let off : (start.x == 32 * loops - 1) ≡ false = grind (arith, nat_tests) in
    ap (λ b. (b && start.y == y) || is_start_at starts (32 * loops - 1) y) off
    ∙ none_west lanes loops y starts (All-tail (IsLoopStart lanes loops) start starts all)

bit_is : (plan : Plan) → IsCircuit plan → (loop : ℕ) → loop < plan.latches
    → bit_shown (start_grid plan).rows plan.lanes plan.latches loop ≡ starts_with_one plan.starts.list plan.lanes plan.latches loop
bit_is plan h loop within =
    let on_lanes : plan.latches ≤ plan.lanes = h.admissible.size.loops_on_lanes in
    entry_is plan h (first_loop_lane plan.lanes plan.latches + loop) (omega arith)
    ∙ ap (λ b. is_start_at plan.starts.list (32 * plan.latches) (row_of (first_loop_lane plan.lanes plan.latches + loop)) || b)
    (none_west plan.lanes plan.latches (row_of (first_loop_lane plan.lanes plan.latches + loop)) plan.starts.list h.at_loops)
    ∙ or-false _

-- tests that agree on the loops have the same starts
same_from : (lanes loops : ℕ) (p q : ℕ → Bool) (left from : ℕ) → ((loop : ℕ) → from ≤ loop → loop < from + left → p loop ≡ q loop)
    → starts_from lanes loops p left from ≡ starts_from lanes loops q left from
same_from lanes loops p q zero from h = refl
same_from lanes loops p q (suc left) from h =
    ap₂ (λ b rest. cond b (loop_start lanes loops from ∷ []) [] ++ rest) (h from (omega arith) (omega arith))
    (same_from lanes loops p q left (from + 1) (λ loop low high. h loop (omega (arith, low)) (omega (arith, high))))

-- the bits that are shown, in a list
pub starts_of_shown : (rows : List (List State)) (lanes loops : ℕ) (bits : List Bool) → bits ≡ bits_shown rows lanes loops
    → starts_where lanes (length bits) (λ loop. get_or bits loop false) ≡ starts_where lanes loops (bit_shown rows lanes loops)
starts_of_shown rows lanes loops bits e =
    let many : length bits ≡ loops = ap length e ∙ length-map-range_with_len (bit_shown rows lanes loops) 0 loops in
    ap (λ n. starts_where lanes n (λ loop. get_or bits loop false)) many
    ∙ same_from lanes loops (λ loop. get_or bits loop false) (bit_shown rows lanes loops) loops 0
    (λ loop low high. ap (λ bs. get_or bs loop false) e ∙ get_or-map-range_with_len (bit_shown rows lanes loops) 0 loops loop loop false (omega (arith, high)) (omega arith))

pub shown_long : (rows : List (List State)) (lanes loops : ℕ) (bits : List Bool) → bits ≡ bits_shown rows lanes loops → length bits ≡ loops
shown_long rows lanes loops bits e = ap length e ∙ length-map-range_with_len (bit_shown rows lanes loops) 0 loops

-- and these are the starts
pub starts_are : (plan : Plan) → IsCircuit plan
    → starts_where plan.lanes plan.latches (bit_shown (start_grid plan).rows plan.lanes plan.latches) ≡ plan.starts.list
starts_are plan h = starts_are_of_loops plan h (bit_shown (start_grid plan).rows plan.lanes plan.latches) (bit_is plan h)
