-- Where the tiles of a plan stand, by tile column and by lane, both counted from 0 from the
-- north-western corner.
--
-- The body has a tile column for each column of the plan and a lane for each of its lanes, and
-- carries signals eastward. Left and right of it is a tile column for each loop, and below it a
-- lane for each loop. A loop leaves the body eastward, is turned down by the right turns, comes
-- back westward below the body, and is turned up by the left turns to enter the body again. The
-- turns lie round each other about the line between the body's lanes and those below. Of N lanes
-- and k loops, loop s leaves the body on lane N - 1 - s; the turn brings it to lane N + s, the way
-- back to lane N + k - 1 - s, and the second turn to lane N - k + s.
use Rattle.std.specs.Prelude.{ℕ, ◌+◌, ◌-◌, ◌%◌, ◌==◌, nat_lt, ◌&&◌, if◌then◌else◌, List, length, slice_index_or, map, Option, Some, None, []}
use Rattle.std.specs.List.{list_any}
use Rattle.tile_core.specs.declared.kind.Kind.{Kind}
use Rattle.tile_core.specs.declared.kind.Kind.TheVariants as kind
use Rattle.tiling.specs.Tiling.{Slot, Tiling}
use Rattle.tiling.specs.Tiling.Piece.{Tile, Output}
use Rattle.tiling.specs.Tiling.Slot.{Nothing, Whole, Upper, Lower}
use Rattle.lane_core.specs.declared.instr.Instr.{Instr}
use Rattle.lane_core.specs.declared.instr.Instr.TheVariants.{Swap, Fork, Xor, Or, AndNot}
use Rattle.lane_core.specs.declared.plan.Plan.{Plan}
use Rattle.lane_core.specs.Instrs.{lane_of, instr_on}

-- the kind of tile that does an instruction
abbrev pub kind_of : Instr → Kind
kind_of (Swap i) = kind.Swap
kind_of (Fork i) = kind.Fork
kind_of (Xor i) = kind.Xor
kind_of (Or i) = kind.Or
kind_of (AndNot i) = kind.AndNot

-- what stands on a lane of a column of the body: half of the tile of the instruction on that lane,
-- or a tile that carries the signal on
abbrev pub body_slot : ℕ → Option Instr → Slot
body_slot lane None = Whole (Tile kind.East)
body_slot lane (Some instr) =
    if lane == lane_of instr then Upper (Tile (kind_of instr)) else Lower (Tile (kind_of instr))

-- the instructions of a column, and none past the last column
abbrev pub instrs_of : Plan → ℕ → List Instr
instrs_of plan column = slice_index_or (map (λ c. c.instrs) plan.columns) column []

-- what stands in the turns of this many loops, `away` tile columns beyond the body and `off` lanes
-- from the two lanes that the innermost turn joins: before its corner the loop of this lane goes
-- along, then comes its corner, and beyond it the turn of this column goes across
abbrev pub turn_slot : ℕ → ℕ → ℕ → Kind → Kind → Kind → Slot
turn_slot loops away off along corner across =
    if nat_lt away loops && nat_lt off loops
    then Whole (Tile (if nat_lt away off then along else if away == off then corner else across))
    else Nothing

-- what stands on the way back, `back` tile columns from its beginning in the east and `off` lanes
-- below the body: in the first columns, as many as there are loops, swaps of lanes e and e + 1 for
-- each even e, then for each odd e, and so on in turn, which reverses the order of the lanes
abbrev pub return_slot : ℕ → ℕ → ℕ → Slot
return_slot loops back off =
    if nat_lt back loops && off % 2 == back % 2 && nat_lt (off + 1) loops
    then Upper (Tile kind.WestSwap)
    else if nat_lt back loops && (off + 1) % 2 == back % 2 && nat_lt 0 off
    then Lower (Tile kind.WestSwap)
    else Whole (Tile kind.West)

-- the tile column right of the body
abbrev pub end_of_body : Plan → ℕ
end_of_body plan = plan.latches + length plan.columns

-- what stands on a lane of the body, left of the body
abbrev pub upper_left : Plan → ℕ → ℕ → Slot
upper_left plan column lane =
    turn_slot plan.latches (plan.latches - 1 - column)
    (plan.lanes - 1 - lane) kind.East kind.NorthEast kind.North

-- what stands in the body
abbrev pub in_body : Plan → ℕ → ℕ → Slot
in_body plan column lane = body_slot lane (instr_on (instrs_of plan (column - plan.latches)) lane)

-- what stands on a lane of the body, right of the body; next to the body each output has its cell
abbrev pub upper_right : Plan → ℕ → ℕ → Slot
upper_right plan column lane =
    if column == end_of_body plan && list_any (λ out. out == lane) plan.outs
    then Whole Output
    else turn_slot plan.latches (column - end_of_body plan)
    (plan.lanes - 1 - lane) kind.East kind.EastSouth kind.South

-- what stands on a lane below those of the body, left of the body
abbrev pub lower_left : Plan → ℕ → ℕ → Slot
lower_left plan column lane =
    turn_slot plan.latches (plan.latches - 1 - column)
    (lane - plan.lanes) kind.West kind.WestNorth kind.North

-- what stands below the body
abbrev pub on_return : Plan → ℕ → ℕ → Slot
on_return plan column lane =
    return_slot plan.latches (end_of_body plan - 1 - column) (lane - plan.lanes)

-- what stands on a lane below those of the body, right of the body
abbrev pub lower_right : Plan → ℕ → ℕ → Slot
lower_right plan column lane =
    turn_slot plan.latches (column - end_of_body plan)
    (lane - plan.lanes) kind.West kind.SouthWest kind.South

-- one of three slots, by whether a tile column lies left of the body, in line with it, or right of
-- it
abbrev pub by_column : Plan → ℕ → Slot → Slot → Slot → Slot
by_column plan column left middle right =
    if nat_lt column plan.latches then left else if nat_lt column (end_of_body plan) then middle
    else right

-- what stands on a lane of the body, and what on a lane below
abbrev pub upper_part : Plan → ℕ → ℕ → Slot
upper_part plan column lane =
    by_column plan column (upper_left plan column lane) (in_body plan column lane)
    (upper_right plan column lane)

abbrev pub lower_part : Plan → ℕ → ℕ → Slot
lower_part plan column lane =
    by_column plan column (lower_left plan column lane) (on_return plan column lane)
    (lower_right plan column lane)

-- the tiles of a plan
abbrev pub tiling_of : Plan → Tiling
tiling_of plan column lane =
    if nat_lt lane plan.lanes then upper_part plan column lane
    else if nat_lt lane (plan.lanes + plan.latches) then lower_part plan column lane
    else Nothing
