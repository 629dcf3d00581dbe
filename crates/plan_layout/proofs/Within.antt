-- Nothing stands beyond the drawing, so no signal passes an edge there.
use Rattle.std.proofs.Common.{◌≡◌, refl, sym, ◌∙◌, ap, ℕ, ◌+◌, ◌-◌, ◌^◌, ◌<◌, ◌≤◌, true, false, ◌&&◌, cond, ltb, true≢false, ⊎_elim, arith}
use Rattle.std.specs.Prelude.{◌==◌}
use Rattle.std.specs.List.{list_any}
use Rattle.std.proofs.lemmas.Bool.{cases_lt, and_parts, or_cases}
use Rattle.std.proofs.lemmas.Bool.Decides.{nat_tests}
use Rattle.tile_core.specs.declared.kind.Kind.{Kind}
use Rattle.tile_core.specs.declared.kind.Kind.TheVariants as kind
use Rattle.tiling.specs.Tiling.{Slot, Edge}
use Rattle.tiling.specs.Tiling.Piece.{Tile, Output}
use Rattle.tiling.specs.Tiling.Slot.{Nothing, Whole}
use Rattle.tiling.specs.Tiling.Edge.{Beside, Above}
use Rattle.lane_core.specs.declared.plan.Plan.{Plan}
use Rattle.lane_core.specs.Plans.{IsAdmissible}
use Rattle.plan_layout.specs.Edges.{column_in, lane_in}
use Rattle.plan_layout.specs.Layout.{turn_slot, end_of_body, upper_left, in_body, upper_right, lower_left, on_return, lower_right, upper_part, lower_part, tiling_of}
use Rattle.plan_layout.specs.Starts.{is_port, is_passed}
use Rattle.plan_layout.proofs.Columns.{by_column-right}
use Rattle.plan_layout.proofs.Matched.{tiling_of-below}
use Rattle.plan_layout.proofs.Sides.{either}

turn_slot-far : (loops away off : ℕ) (along corner across : Kind) → loops ≤ away → turn_slot loops away off along corner across ≡ Nothing
turn_slot-far loops away off along corner across far =
    let no : ltb away loops ≡ false = grind (arith, nat_tests) in
    ap (λ b. cond (b && ltb off loops) (Whole (Tile (cond (ltb away off) along (cond (away == off) corner across)))) Nothing) no

upper_right-far : (plan : Plan) (q l : ℕ) → end_of_body plan + plan.latches + 1 ≤ q → upper_right plan q l ≡ Nothing
upper_right-far plan q l far =
    let no : (q == end_of_body plan) ≡ false = grind (arith, nat_tests) in
    let beyond : turn_slot plan.latches (q - end_of_body plan) (plan.lanes - 1 - l) kind.East kind.EastSouth kind.South ≡ Nothing =
    turn_slot-far plan.latches (q - end_of_body plan) (plan.lanes - 1 - l) kind.East kind.EastSouth kind.South (omega arith) in
    ap (λ t. cond (t && list_any (λ out. out == l) plan.outs) (Whole Output) (turn_slot plan.latches (q - end_of_body plan) (plan.lanes - 1 - l) kind.East kind.EastSouth kind.South)) no ∙ beyond

pub tiling_of-right : (plan : Plan) (q l : ℕ) → end_of_body plan + plan.latches + 1 ≤ q → tiling_of plan q l ≡ Nothing
tiling_of-right plan q l far =
    let above : upper_part plan q l ≡ Nothing =
    by_column-right plan q (upper_left plan q l) (in_body plan q l) (upper_right plan q l) (omega arith) ∙ upper_right-far plan q l far in
    let below : lower_part plan q l ≡ Nothing =
    by_column-right plan q (lower_left plan q l) (on_return plan q l) (lower_right plan q l) (omega arith)
    ∙ turn_slot-far plan.latches (q - end_of_body plan) (l - plan.lanes) kind.West kind.SouthWest kind.South (omega arith) in
    either (λ s. s ≡ Nothing) (ltb l plan.lanes) above (either (λ s. s ≡ Nothing) (ltb l (plan.lanes + plan.latches)) below refl)

-- what stands somewhere stands within the drawing
pub within : (plan : Plan) (q l : ℕ) → (tiling_of plan q l ≡ Nothing → ⊥) → (q ≤ end_of_body plan + plan.latches) × (l < plan.lanes + plan.latches)
within plan q l some =
    let near : q < end_of_body plan + plan.latches + 1 = ⊎_elim (λ (h : q < end_of_body plan + plan.latches + 1). h) (λ far. absurd (some (tiling_of-right plan q l far))) (cases_lt q (end_of_body plan + plan.latches + 1)) in
    let low : l < plan.lanes + plan.latches = ⊎_elim (λ (h : l < plan.lanes + plan.latches). h) (λ far. absurd (some (tiling_of-below plan q l far))) (cases_lt l (plan.lanes + plan.latches)) in
    (omega (arith, near), low)

port_stands : (slot : Slot) (x y : ℕ) → is_port slot x y ≡ true → slot ≡ Nothing → ⊥
port_stands slot x y e none = true≢false (sym e ∙ ap (λ s. is_port s x y) none)

-- an edge that signals pass lies within the drawing, or at its end
abbrev pub IsWithin : Plan → Edge → Type 0
IsWithin plan edge = (column_in edge ≤ end_of_body plan + plan.latches + 1) × (lane_in edge ≤ plan.lanes + plan.latches)

pub passed_within : (plan : Plan) (edge : Edge) → is_passed (tiling_of plan) edge ≡ true → IsWithin plan edge
passed_within plan (Beside q l) e =
    ⊎_elim
    (λ west. (let parts = and_parts (ltb 0 q) (is_port (tiling_of plan (q - 1) l) 31 8) west in
    let w = within plan (q - 1) l (port_stands (tiling_of plan (q - 1) l) 31 8 parts.1) in (omega (arith, w.0), omega (arith, w.1))))
    (λ east. (let w = within plan q l (port_stands (tiling_of plan q l) 0 8 east) in (omega (arith, w.0), omega (arith, w.1))))
    (or_cases (ltb 0 q && is_port (tiling_of plan (q - 1) l) 31 8) (is_port (tiling_of plan q l) 0 8) e)
passed_within plan (Above q l) e =
    ⊎_elim
    (λ north. (let parts = and_parts (ltb 0 l) (is_port (tiling_of plan q (l - 1)) 16 15) north in
    let w = within plan q (l - 1) (port_stands (tiling_of plan q (l - 1)) 16 15 parts.1) in (omega (arith, w.0), omega (arith, w.1))))
    (λ south. (let w = within plan q l (port_stands (tiling_of plan q l) 16 0 south) in (omega (arith, w.0), omega (arith, w.1))))
    (or_cases (ltb 0 l && is_port (tiling_of plan q (l - 1)) 16 15) (is_port (tiling_of plan q l) 16 0) e)

pub passed_near : (plan : Plan) → IsAdmissible plan → (edge : Edge) → is_passed (tiling_of plan) edge ≡ true → (column_in edge < 2 ^ 41) × (lane_in edge < 2 ^ 34)
passed_near plan h edge e =
    let w = passed_within plan edge e in
    (omega (arith, w.0, h.size.lanes, h.size.columns, h.size.loops_on_lanes), omega (arith, w.1, h.size.lanes, h.size.loops_on_lanes))
