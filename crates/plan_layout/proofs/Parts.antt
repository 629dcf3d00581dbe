-- What stands in the body of a plan, in its turns and on the way back, each by its place.
use Rattle.std.proofs.Common.{◌≡◌, refl, ◌∙◌, ap, ℕ, ◌+◌, ◌-◌, ◌*◌, ◌<◌, ◌≤◌, true, false, ◌&&◌, cond, ltb, ⊎_elim, List, [], ◌∷◌, length, arith}
use Rattle.std.specs.Prelude.{◌==◌, All}
use Rattle.std.specs.List.{list_any}
use Rattle.std.proofs.lemmas.Bool.{cases_lt, and_right, or_from, cond-true, cond-false}
use Rattle.std.proofs.lemmas.List.Elements.{All-head, All-tail}
use Rattle.std.proofs.lemmas.Bool.Decides.{nat_tests}
use Rattle.tile_core.specs.declared.kind.Kind.{Kind}
use Rattle.tile_core.specs.declared.kind.Kind.TheVariants as kind
use Rattle.tiling.specs.Tiling.Piece.{Tile, Output}
use Rattle.tiling.specs.Tiling.Slot.{Nothing, Whole}
use Rattle.lane_core.specs.declared.plan.Plan.{Plan}
use Rattle.lane_core.specs.Plans.{IsAdmissible}
use Rattle.lane_core.specs.Entering.{first_loop_lane}
use Rattle.plan_layout.specs.Layout.{turn_slot, return_slot, end_of_body, upper_left, in_body, upper_right, lower_left, on_return, lower_right, tiling_of}
use Rattle.plan_layout.proofs.Matched.{tiling_of-upper, tiling_of-lower}
use Rattle.plan_layout.proofs.Columns.{by_column-left}
use Rattle.plan_layout.proofs.Columns.{by_column-middle}
use Rattle.plan_layout.proofs.Columns.{by_column-right}

-- a plan with a lane has a column
pub some_columns : (plan : Plan) → IsAdmissible plan → 0 < plan.lanes → 0 < length plan.columns
some_columns plan h some =
    ⊎_elim
    (λ none. (let e : plan.lanes ≡ 0 = h.size.both.1 (omega arith) in absurd (omega arith)))
    (λ more. more)
    (cases_lt (length plan.columns) 1)

-- the body
pub body_at : (plan : Plan) (q l : ℕ) → plan.latches ≤ q → q < end_of_body plan → l < plan.lanes → tiling_of plan q l ≡ in_body plan q l
body_at plan q l from to low =
    tiling_of-upper plan q l low ∙ by_column-middle plan q (upper_left plan q l) (in_body plan q l) (upper_right plan q l) from to

-- the three parts of a turn, and the lanes beyond it
in_turn : (loops away off : ℕ) (along corner across : Kind) → away < loops → off < loops
    → turn_slot loops away off along corner across ≡ Whole (Tile (cond (ltb away off) along (cond (away == off) corner across)))
in_turn loops away off along corner across a b =
    let yes : (ltb away loops && ltb off loops) ≡ true = grind (arith, nat_tests) in
    cond-true (ltb away loops && ltb off loops) (Whole (Tile (cond (ltb away off) along (cond (away == off) corner across)))) Nothing yes

turn_along : (loops away off : ℕ) (along corner across : Kind) → away < off → off < loops → turn_slot loops away off along corner across ≡ Whole (Tile along)
turn_along loops away off along corner across a b =
    let yes : ltb away off ≡ true = grind (arith, nat_tests) in
    in_turn loops away off along corner across (omega arith) b
    ∙ ap (λ t. Whole (Tile (cond t along (cond (away == off) corner across)))) yes

turn_corner : (loops away off : ℕ) (along corner across : Kind) → away ≡ off → off < loops → turn_slot loops away off along corner across ≡ Whole (Tile corner)
turn_corner loops away off along corner across a b =
    let no : ltb away off ≡ false = grind (arith, nat_tests) in
    let yes : (away == off) ≡ true = grind (arith, nat_tests) in
    in_turn loops away off along corner across (omega arith) b
    ∙ ap (λ t. Whole (Tile (cond t along (cond (away == off) corner across)))) no
    ∙ ap (λ t. Whole (Tile (cond t corner across))) yes

turn_across : (loops away off : ℕ) (along corner across : Kind) → off < away → away < loops → turn_slot loops away off along corner across ≡ Whole (Tile across)
turn_across loops away off along corner across a b =
    let no : ltb away off ≡ false = grind (arith, nat_tests) in
    let no' : (away == off) ≡ false = grind (arith, nat_tests) in
    in_turn loops away off along corner across b (omega arith)
    ∙ ap (λ t. Whole (Tile (cond t along (cond (away == off) corner across)))) no
    ∙ ap (λ t. Whole (Tile (cond t corner across))) no'

pub turn_beyond : (loops away off : ℕ) (along corner across : Kind) → loops ≤ off → turn_slot loops away off along corner across ≡ Nothing
turn_beyond loops away off along corner across far =
    let no : (ltb away loops && ltb off loops) ≡ false = grind (arith, nat_tests) in
    cond-false (ltb away loops && ltb off loops) (Whole (Tile (cond (ltb away off) along (cond (away == off) corner across)))) Nothing no

-- left of the body nothing stands on the lanes that no loop enters
pub nothing_left : (plan : Plan) → IsAdmissible plan → (q l : ℕ) → q < plan.latches → l < first_loop_lane plan.lanes plan.latches → tiling_of plan q l ≡ Nothing
nothing_left plan h q l left low =
    tiling_of-upper plan q l (omega arith)
    ∙ by_column-left plan q (upper_left plan q l) (in_body plan q l) (upper_right plan q l) left
    ∙ turn_beyond plan.latches (plan.latches - 1 - q) (plan.lanes - 1 - l) kind.East kind.NorthEast kind.North (omega arith)

-- no port of a list is on the lane of a loop
pub none_on : (outs : List ℕ) (limit l : ℕ) → limit ≤ l → All (λ lane. lane < limit) outs → list_any (λ out. out == l) outs ≡ false
none_on [] limit l high below = refl
none_on (out ∷ outs) limit l high below =
    let low : out < limit = All-head (λ lane. lane < limit) out outs below in
    let other : (out == l) ≡ false = grind (arith, nat_tests) in
    or_from _ _ other (none_on outs limit l high (All-tail (λ lane. lane < limit) out outs below))

-- right of the body, on the lanes of loops and below
right_at : (plan : Plan) → IsAdmissible plan → (q l : ℕ) → end_of_body plan ≤ q → first_loop_lane plan.lanes plan.latches ≤ l → l < plan.lanes
    → tiling_of plan q l ≡ turn_slot plan.latches (q - end_of_body plan) (plan.lanes - 1 - l) kind.East kind.EastSouth kind.South
right_at plan h q l right high low =
    let none : list_any (λ out. out == l) plan.outs ≡ false = none_on plan.outs (first_loop_lane plan.lanes plan.latches) l high h.outs.below in
    tiling_of-upper plan q l low
    ∙ by_column-right plan q (upper_left plan q l) (in_body plan q l) (upper_right plan q l) right
    ∙ cond-false (q == end_of_body plan && list_any (λ out. out == l) plan.outs) (Whole Output)
    (turn_slot plan.latches (q - end_of_body plan) (plan.lanes - 1 - l) kind.East kind.EastSouth kind.South) (and_right _ _ none)

below_right_at : (plan : Plan) (q l : ℕ) → end_of_body plan ≤ q → plan.lanes ≤ l → l < plan.lanes + plan.latches
    → tiling_of plan q l ≡ turn_slot plan.latches (q - end_of_body plan) (l - plan.lanes) kind.West kind.SouthWest kind.South
below_right_at plan q l right high low =
    tiling_of-lower plan q l high low ∙ by_column-right plan q (lower_left plan q l) (on_return plan q l) (lower_right plan q l) right

-- left of the body
left_at : (plan : Plan) (q l : ℕ) → q < plan.latches → l < plan.lanes
    → tiling_of plan q l ≡ turn_slot plan.latches (plan.latches - 1 - q) (plan.lanes - 1 - l) kind.East kind.NorthEast kind.North
left_at plan q l left low =
    tiling_of-upper plan q l low ∙ by_column-left plan q (upper_left plan q l) (in_body plan q l) (upper_right plan q l) left

below_left_at : (plan : Plan) (q l : ℕ) → q < plan.latches → plan.lanes ≤ l → l < plan.lanes + plan.latches
    → tiling_of plan q l ≡ turn_slot plan.latches (plan.latches - 1 - q) (l - plan.lanes) kind.West kind.WestNorth kind.North
below_left_at plan q l left high low =
    tiling_of-lower plan q l high low ∙ by_column-left plan q (lower_left plan q l) (on_return plan q l) (lower_right plan q l) left

-- the way back
pub return_at : (plan : Plan) (q l : ℕ) → plan.latches ≤ q → q < end_of_body plan → plan.lanes ≤ l → l < plan.lanes + plan.latches
    → tiling_of plan q l ≡ return_slot plan.latches (end_of_body plan - 1 - q) (l - plan.lanes)
return_at plan q l from to high low =
    tiling_of-lower plan q l high low ∙ by_column-middle plan q (lower_left plan q l) (on_return plan q l) (lower_right plan q l) from to

-- the right turn of a loop, by the number of tiles from the body, and from its upper corner
pub right_along : (plan : Plan) → IsAdmissible plan → (loop t : ℕ) → loop < plan.latches → t < loop → tiling_of plan (end_of_body plan + t) (plan.lanes - 1 - loop) ≡ Whole (Tile kind.East)
right_along plan h loop t inside within =
    let fits = h.size.loops_on_lanes in
    right_at plan h (end_of_body plan + t) (plan.lanes - 1 - loop) (omega arith) (omega arith) (omega arith)
    ∙ turn_along plan.latches (end_of_body plan + t - end_of_body plan) (plan.lanes - 1 - (plan.lanes - 1 - loop)) kind.East kind.EastSouth kind.South (omega arith) (omega arith)

pub right_upper_corner : (plan : Plan) → IsAdmissible plan → (loop : ℕ) → loop < plan.latches → tiling_of plan (end_of_body plan + loop) (plan.lanes - 1 - loop) ≡ Whole (Tile kind.EastSouth)
right_upper_corner plan h loop inside =
    let fits = h.size.loops_on_lanes in
    right_at plan h (end_of_body plan + loop) (plan.lanes - 1 - loop) (omega arith) (omega arith) (omega arith)
    ∙ turn_corner plan.latches (end_of_body plan + loop - end_of_body plan) (plan.lanes - 1 - (plan.lanes - 1 - loop)) kind.East kind.EastSouth kind.South (omega arith) (omega arith)

pub right_across : (plan : Plan) → IsAdmissible plan → (loop t : ℕ) → loop < plan.latches → t < 2 * loop → tiling_of plan (end_of_body plan + loop) (plan.lanes - loop + t) ≡ Whole (Tile kind.South)
right_across plan h loop t inside within =
    let fits = h.size.loops_on_lanes in
    let q = end_of_body plan + loop in
    let l = plan.lanes - loop + t in
    ⊎_elim
    (λ above. right_at plan h q l (omega arith) (omega arith) above
    ∙ turn_across plan.latches (q - end_of_body plan) (plan.lanes - 1 - l) kind.East kind.EastSouth kind.South (omega arith) (omega arith))
    (λ below. below_right_at plan q l (omega arith) below (omega arith)
    ∙ turn_across plan.latches (q - end_of_body plan) (l - plan.lanes) kind.West kind.SouthWest kind.South (omega arith) (omega arith))
    (cases_lt l plan.lanes)

pub right_lower_corner : (plan : Plan) (loop : ℕ) → loop < plan.latches → tiling_of plan (end_of_body plan + loop) (plan.lanes + loop) ≡ Whole (Tile kind.SouthWest)
right_lower_corner plan loop inside =
    below_right_at plan (end_of_body plan + loop) (plan.lanes + loop) (omega arith) (omega arith) (omega arith)
    ∙ turn_corner plan.latches (end_of_body plan + loop - end_of_body plan) (plan.lanes + loop - plan.lanes) kind.West kind.SouthWest kind.South (omega arith) (omega arith)

pub right_back : (plan : Plan) (loop t : ℕ) → loop < plan.latches → t < loop → tiling_of plan (end_of_body plan + t) (plan.lanes + loop) ≡ Whole (Tile kind.West)
right_back plan loop t inside within =
    below_right_at plan (end_of_body plan + t) (plan.lanes + loop) (omega arith) (omega arith) (omega arith)
    ∙ turn_along plan.latches (end_of_body plan + t - end_of_body plan) (plan.lanes + loop - plan.lanes) kind.West kind.SouthWest kind.South (omega arith) (omega arith)

-- the left turn that has so many turns inside it
pub left_back : (plan : Plan) (inside t : ℕ) → inside < plan.latches → t < inside → tiling_of plan (plan.latches - inside + t) (plan.lanes + inside) ≡ Whole (Tile kind.West)
left_back plan inside t h within =
    below_left_at plan (plan.latches - inside + t) (plan.lanes + inside) (omega arith) (omega arith) (omega arith)
    ∙ turn_along plan.latches (plan.latches - 1 - (plan.latches - inside + t)) (plan.lanes + inside - plan.lanes) kind.West kind.WestNorth kind.North (omega arith) (omega arith)

pub left_lower_corner : (plan : Plan) (inside : ℕ) → inside < plan.latches → tiling_of plan (plan.latches - 1 - inside) (plan.lanes + inside) ≡ Whole (Tile kind.WestNorth)
left_lower_corner plan inside h =
    below_left_at plan (plan.latches - 1 - inside) (plan.lanes + inside) (omega arith) (omega arith) (omega arith)
    ∙ turn_corner plan.latches (plan.latches - 1 - (plan.latches - 1 - inside)) (plan.lanes + inside - plan.lanes) kind.West kind.WestNorth kind.North (omega arith) (omega arith)

pub left_across : (plan : Plan) → IsAdmissible plan → (inside t : ℕ) → inside < plan.latches → t < 2 * inside → tiling_of plan (plan.latches - 1 - inside) (plan.lanes - inside + t) ≡ Whole (Tile kind.North)
left_across plan h inside t within some =
    let fits = h.size.loops_on_lanes in
    let q = plan.latches - 1 - inside in
    let l = plan.lanes - inside + t in
    ⊎_elim
    (λ above. left_at plan q l (omega arith) above
    ∙ turn_across plan.latches (plan.latches - 1 - q) (plan.lanes - 1 - l) kind.East kind.NorthEast kind.North (omega arith) (omega arith))
    (λ below. below_left_at plan q l (omega arith) below (omega arith)
    ∙ turn_across plan.latches (plan.latches - 1 - q) (l - plan.lanes) kind.West kind.WestNorth kind.North (omega arith) (omega arith))
    (cases_lt l plan.lanes)

pub left_upper_corner : (plan : Plan) → IsAdmissible plan → (inside : ℕ) → inside < plan.latches → tiling_of plan (plan.latches - 1 - inside) (plan.lanes - 1 - inside) ≡ Whole (Tile kind.NorthEast)
left_upper_corner plan h inside within =
    let fits = h.size.loops_on_lanes in
    left_at plan (plan.latches - 1 - inside) (plan.lanes - 1 - inside) (omega arith) (omega arith)
    ∙ turn_corner plan.latches (plan.latches - 1 - (plan.latches - 1 - inside)) (plan.lanes - 1 - (plan.lanes - 1 - inside)) kind.East kind.NorthEast kind.North (omega arith) (omega arith)

pub left_along : (plan : Plan) → IsAdmissible plan → (inside t : ℕ) → inside < plan.latches → t < inside → tiling_of plan (plan.latches - inside + t) (plan.lanes - 1 - inside) ≡ Whole (Tile kind.East)
left_along plan h inside t within some =
    let fits = h.size.loops_on_lanes in
    left_at plan (plan.latches - inside + t) (plan.lanes - 1 - inside) (omega arith) (omega arith)
    ∙ turn_along plan.latches (plan.latches - 1 - (plan.latches - inside + t)) (plan.lanes - 1 - (plan.lanes - 1 - inside)) kind.East kind.NorthEast kind.North (omega arith) (omega arith)
