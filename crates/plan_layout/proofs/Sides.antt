-- Which way signals go in the tiles of a plan: eastward on the body's lanes and westward below them, up on the left of
-- the body and down on the right of it.
use Rattle.std.proofs.Common.{◌≡◌, refl, ℕ, ◌+◌, ◌-◌, Bool, true, false, ◌&&◌, cond, ltb, eqb, ◌⊎◌, inl, inr, Option, Some, None}
use Rattle.std.specs.Prelude.{◌==◌}
use Rattle.std.specs.List.{list_any}
use Rattle.tile_core.specs.declared.kind.Kind.{Kind}
use Rattle.tile_core.specs.declared.kind.Kind.TheVariants as kind
use Rattle.tiling.specs.Tiling.{Slot}
use Rattle.tiling.specs.Tiling.Piece.{Tile, Output}
use Rattle.tiling.specs.Tiling.Slot.{Nothing, Whole, Upper, Lower}
use Rattle.tiling.specs.Matched.{is_entered, is_left}
use Rattle.lane_core.specs.declared.instr.Instr.{Instr}
use Rattle.lane_core.specs.declared.instr.Instr.TheVariants as instr
use Rattle.lane_core.specs.declared.plan.Plan.{Plan}
use Rattle.lane_core.specs.Instrs.{instr_on}
use Rattle.plan_layout.specs.Layout.{kind_of, body_slot, turn_slot, return_slot, instrs_of, end_of_body, upper_left, in_body, upper_right, lower_left, on_return, lower_right, by_column, tiling_of}

-- what holds of both holds of the one that is taken
pub either : {X : Type 0} (P : X → Type 0) (b : Bool) {x y : X} → P x → P y → P (cond b x y)
either P true p q = p
either P false p q = q

-- no signal goes through the block to the west
pub record IsEastGoing (slot : Slot) : Type 0 where
  pub entered : is_entered slot 31 8 ≡ false
  pub left : is_left slot 0 8 ≡ false

-- no signal goes through it to the east
pub record IsWestGoing (slot : Slot) : Type 0 where
  pub entered : is_entered slot 0 8 ≡ false
  pub left : is_left slot 31 8 ≡ false

-- no signal goes through it downward
pub record IsUpGoing (slot : Slot) : Type 0 where
  pub entered : is_entered slot 16 0 ≡ false
  pub left : is_left slot 16 15 ≡ false

-- no signal goes through it upward
pub record IsDownGoing (slot : Slot) : Type 0 where
  pub entered : is_entered slot 16 15 ≡ false
  pub left : is_left slot 16 0 ≡ false

-- what holds of nothing and of whole tiles of three kinds holds of what stands in a turn
pub turn_has : (P : Slot → Type 0) (loops away off : ℕ) (along corner across : Kind)
    → P Nothing → P (Whole (Tile along)) → P (Whole (Tile corner)) → P (Whole (Tile across))
    → P (turn_slot loops away off along corner across)
turn_has P loops away off along corner across none a c x =
    either P (ltb away loops && ltb off loops)
    (either (λ k. P (Whole (Tile k))) (ltb away off) a (either (λ k. P (Whole (Tile k))) (eqb away off) c x)) none

pub return_has : (P : Slot → Type 0) (loops back off : ℕ)
    → P (Whole (Tile kind.West)) → P (Upper (Tile kind.WestSwap)) → P (Lower (Tile kind.WestSwap))
    → P (return_slot loops back off)
return_has P loops back off w u l = either P _ u (either P _ l w)

-- what holds of whole East tiles and of halves of the kinds of instructions holds of what stands in the body
pub body_has : (P : Slot → Type 0) (lane : ℕ) (o : Option Instr)
    → P (Whole (Tile kind.East)) → ((i : Instr) → P (Upper (Tile (kind_of i)))) → ((i : Instr) → P (Lower (Tile (kind_of i))))
    → P (body_slot lane o)
body_has P lane None e u l = e
body_has P lane (Some i) e u l = either P _ (u i) (l i)

east_kind : (i : Instr) → IsEastGoing (Upper (Tile (kind_of i))) × IsEastGoing (Lower (Tile (kind_of i)))
east_kind (instr.Swap i) = (record { entered = refl; left = refl }, record { entered = refl; left = refl })
east_kind (instr.Fork i) = (record { entered = refl; left = refl }, record { entered = refl; left = refl })
east_kind (instr.Xor i) = (record { entered = refl; left = refl }, record { entered = refl; left = refl })
east_kind (instr.Or i) = (record { entered = refl; left = refl }, record { entered = refl; left = refl })
east_kind (instr.AndNot i) = (record { entered = refl; left = refl }, record { entered = refl; left = refl })

down_kind : (i : Instr) → IsDownGoing (Upper (Tile (kind_of i))) × IsDownGoing (Lower (Tile (kind_of i)))
down_kind (instr.Swap i) = (record { entered = refl; left = refl }, record { entered = refl; left = refl })
down_kind (instr.Fork i) = (record { entered = refl; left = refl }, record { entered = refl; left = refl })
down_kind (instr.Xor i) = (record { entered = refl; left = refl }, record { entered = refl; left = refl })
down_kind (instr.Or i) = (record { entered = refl; left = refl }, record { entered = refl; left = refl })
down_kind (instr.AndNot i) = (record { entered = refl; left = refl }, record { entered = refl; left = refl })

-- what holds of each kind of tile that stands in a part of the plan holds of the part
pub upper_left_has : (P : Slot → Type 0) (plan : Plan) (q l : ℕ)
    → P Nothing → P (Whole (Tile kind.East)) → P (Whole (Tile kind.NorthEast)) → P (Whole (Tile kind.North)) → P (upper_left plan q l)
upper_left_has P plan q l = turn_has P plan.latches (plan.latches - 1 - q) (plan.lanes - 1 - l) kind.East kind.NorthEast kind.North

pub in_body_has : (P : Slot → Type 0) (plan : Plan) (q l : ℕ)
    → P (Whole (Tile kind.East)) → ((i : Instr) → P (Upper (Tile (kind_of i))) × P (Lower (Tile (kind_of i)))) → P (in_body plan q l)
in_body_has P plan q l e i = body_has P l (instr_on (instrs_of plan (q - plan.latches)) l) e (λ j. (i j).0) (λ j. (i j).1)

pub upper_right_has : (P : Slot → Type 0) (plan : Plan) (q l : ℕ)
    → P Nothing → P (Whole Output) → P (Whole (Tile kind.East)) → P (Whole (Tile kind.EastSouth)) → P (Whole (Tile kind.South)) → P (upper_right plan q l)
upper_right_has P plan q l none out e c x =
    either P (q == end_of_body plan && list_any (λ o. o == l) plan.outs) out
    (turn_has P plan.latches (q - end_of_body plan) (plan.lanes - 1 - l) kind.East kind.EastSouth kind.South none e c x)

pub lower_left_has : (P : Slot → Type 0) (plan : Plan) (q l : ℕ)
    → P Nothing → P (Whole (Tile kind.West)) → P (Whole (Tile kind.WestNorth)) → P (Whole (Tile kind.North)) → P (lower_left plan q l)
lower_left_has P plan q l = turn_has P plan.latches (plan.latches - 1 - q) (l - plan.lanes) kind.West kind.WestNorth kind.North

pub on_return_has : (P : Slot → Type 0) (plan : Plan) (q l : ℕ)
    → P (Whole (Tile kind.West)) → P (Upper (Tile kind.WestSwap)) → P (Lower (Tile kind.WestSwap)) → P (on_return plan q l)
on_return_has P plan q l = return_has P plan.latches (end_of_body plan - 1 - q) (l - plan.lanes)

pub lower_right_has : (P : Slot → Type 0) (plan : Plan) (q l : ℕ)
    → P Nothing → P (Whole (Tile kind.West)) → P (Whole (Tile kind.SouthWest)) → P (Whole (Tile kind.South)) → P (lower_right plan q l)
lower_right_has P plan q l = turn_has P plan.latches (q - end_of_body plan) (l - plan.lanes) kind.West kind.SouthWest kind.South

-- the body goes east
pub body_goes_east : (plan : Plan) (q l : ℕ) → IsEastGoing (in_body plan q l)
body_goes_east plan q l = in_body_has IsEastGoing plan q l (record { entered = refl; left = refl }) east_kind

-- what stands on a lane of the body goes east, and what stands below goes west
upper_goes_east : (plan : Plan) (q l : ℕ) → IsEastGoing (by_column plan q (upper_left plan q l) (in_body plan q l) (upper_right plan q l))
upper_goes_east plan q l =
    let none : IsEastGoing Nothing = record { entered = refl; left = refl } in
    let e : IsEastGoing (Whole (Tile kind.East)) = record { entered = refl; left = refl } in
    either IsEastGoing (ltb q plan.latches)
    (upper_left_has IsEastGoing plan q l none e (record { entered = refl; left = refl }) (record { entered = refl; left = refl }))
    (either IsEastGoing (ltb q (end_of_body plan))
    (body_goes_east plan q l)
    (upper_right_has IsEastGoing plan q l none (record { entered = refl; left = refl }) e (record { entered = refl; left = refl }) (record { entered = refl; left = refl })))

lower_goes_west : (plan : Plan) (q l : ℕ) → IsWestGoing (by_column plan q (lower_left plan q l) (on_return plan q l) (lower_right plan q l))
lower_goes_west plan q l =
    let none : IsWestGoing Nothing = record { entered = refl; left = refl } in
    let w : IsWestGoing (Whole (Tile kind.West)) = record { entered = refl; left = refl } in
    either IsWestGoing (ltb q plan.latches)
    (lower_left_has IsWestGoing plan q l none w (record { entered = refl; left = refl }) (record { entered = refl; left = refl }))
    (either IsWestGoing (ltb q (end_of_body plan))
    (on_return_has IsWestGoing plan q l w (record { entered = refl; left = refl }) (record { entered = refl; left = refl }))
    (lower_right_has IsWestGoing plan q l none w (record { entered = refl; left = refl }) (record { entered = refl; left = refl })))

-- all of a lane goes one way
taken : (b : Bool) (first second : ℕ → Slot) → ((q : ℕ) → IsEastGoing (first q)) → ((q : ℕ) → IsWestGoing (second q))
    → ((q : ℕ) → IsEastGoing (cond b (first q) (second q))) ⊎ ((q : ℕ) → IsWestGoing (cond b (first q) (second q)))
taken true first second e w = inl e
taken false first second e w = inr w

pub lane_goes : (plan : Plan) (l : ℕ) → ((q : ℕ) → IsEastGoing (tiling_of plan q l)) ⊎ ((q : ℕ) → IsWestGoing (tiling_of plan q l))
lane_goes plan l =
    taken (ltb l plan.lanes)
    (λ q. by_column plan q (upper_left plan q l) (in_body plan q l) (upper_right plan q l))
    (λ q. cond (ltb l (plan.lanes + plan.latches)) (by_column plan q (lower_left plan q l) (on_return plan q l) (lower_right plan q l)) Nothing)
    (λ q. upper_goes_east plan q l)
    (λ q. either IsWestGoing (ltb l (plan.lanes + plan.latches)) (lower_goes_west plan q l) (record { entered = refl; left = refl }))

-- left of the body signals go up, and elsewhere down
left_goes_up : (plan : Plan) (q l : ℕ) → IsUpGoing (upper_left plan q l) × IsUpGoing (lower_left plan q l)
left_goes_up plan q l =
    let none : IsUpGoing Nothing = record { entered = refl; left = refl } in
    let north : IsUpGoing (Whole (Tile kind.North)) = record { entered = refl; left = refl } in (
      upper_left_has IsUpGoing plan q l none (record { entered = refl; left = refl }) (record { entered = refl; left = refl }) north,
      lower_left_has IsUpGoing plan q l none (record { entered = refl; left = refl }) (record { entered = refl; left = refl }) north,
    )

upper_goes_down : (plan : Plan) (q l : ℕ) (b : Bool) → IsDownGoing (cond b (in_body plan q l) (upper_right plan q l))
upper_goes_down plan q l b =
    let e : IsDownGoing (Whole (Tile kind.East)) = record { entered = refl; left = refl } in
    either IsDownGoing b
    (in_body_has IsDownGoing plan q l e down_kind)
    (upper_right_has IsDownGoing plan q l (record { entered = refl; left = refl }) (record { entered = refl; left = refl }) e (record { entered = refl; left = refl }) (record { entered = refl; left = refl }))

lower_goes_down : (plan : Plan) (q l : ℕ) (b : Bool) → IsDownGoing (cond b (on_return plan q l) (lower_right plan q l))
lower_goes_down plan q l b =
    let w : IsDownGoing (Whole (Tile kind.West)) = record { entered = refl; left = refl } in
    either IsDownGoing b
    (on_return_has IsDownGoing plan q l w (record { entered = refl; left = refl }) (record { entered = refl; left = refl }))
    (lower_right_has IsDownGoing plan q l (record { entered = refl; left = refl }) w (record { entered = refl; left = refl }) (record { entered = refl; left = refl }))

taken_across : (b : Bool) (c d : ℕ → Bool) (up_above up_below down_above down_below : ℕ → Slot)
    → ((l : ℕ) → IsUpGoing (up_above l) × IsUpGoing (up_below l))
    → ((l : ℕ) → IsDownGoing (down_above l)) → ((l : ℕ) → IsDownGoing (down_below l))
    → ((l : ℕ) → IsUpGoing (cond (c l) (cond b (up_above l) (down_above l)) (cond (d l) (cond b (up_below l) (down_below l)) Nothing)))
    ⊎ ((l : ℕ) → IsDownGoing (cond (c l) (cond b (up_above l) (down_above l)) (cond (d l) (cond b (up_below l) (down_below l)) Nothing)))
taken_across true c d ua ub da db up above below =
    inl (λ l. either IsUpGoing (c l) (up l).0 (either IsUpGoing (d l) (up l).1 (record { entered = refl; left = refl })))
taken_across false c d ua ub da db up above below =
    inr (λ l. either IsDownGoing (c l) (above l) (either IsDownGoing (d l) (below l) (record { entered = refl; left = refl })))

-- all of a tile column goes one way
pub column_goes : (plan : Plan) (q : ℕ) → ((l : ℕ) → IsUpGoing (tiling_of plan q l)) ⊎ ((l : ℕ) → IsDownGoing (tiling_of plan q l))
column_goes plan q =
    taken_across (ltb q plan.latches) (λ l. ltb l plan.lanes) (λ l. ltb l (plan.lanes + plan.latches))
    (upper_left plan q) (lower_left plan q)
    (λ l. cond (ltb q (end_of_body plan)) (in_body plan q l) (upper_right plan q l))
    (λ l. cond (ltb q (end_of_body plan)) (on_return plan q l) (lower_right plan q l))
    (λ l. left_goes_up plan q l)
    (λ l. upper_goes_down plan q l (ltb q (end_of_body plan)))
    (λ l. lower_goes_down plan q l (ltb q (end_of_body plan)))
