-- The drawing of a plan with its tape: East tiles lie before the body on the lanes of the inputs,
-- and the electrons of the tape lie between them. The plan stands so many tile columns further east
-- that the tape has room.
use Rattle.std.specs.Prelude.{ℕ, ◌+◌, ◌-◌, ◌==◌, nat_lt, nat_le, Bool, ◌&&◌, ◌||◌, if◌then◌else◌}
use Rattle.std.specs.List.{list_any}
use Rattle.ww_rule.specs.Wireworld.{Plane}
use Rattle.tile_core.specs.declared.kind.Kind.{Kind}
use Rattle.tile_core.specs.declared.kind.Kind.TheVariants as kind
use Rattle.tile_core.specs.Drawing.{Drawing}
use Rattle.tiling.specs.Tiling.{Tiling, Lit, drawn}
use Rattle.tiling.specs.Tiling.Piece.{Tile}
use Rattle.tiling.specs.Tiling.Slot.{Nothing, Whole}
use Rattle.tiling.specs.Tiling.Edge.{Beside, Above}
use Rattle.lane_core.specs.declared.plan.Plan.{Plan}
use Rattle.lane_core.specs.Tape.{tape_tiles, tape_shift, tape_bit}
use Rattle.plan_layout.specs.Layout.{tiling_of}
use Rattle.plan_layout.specs.Starts.{start_edges}

-- whether a block is one of the tape's, which has `tiles` tiles directly before the body on the
-- lane of each input, if the plan stands `shift` tile columns further east
abbrev pub is_on_tape : Plan → (shift tiles column lane : ℕ) → Bool
is_on_tape plan shift tiles column lane =
    (nat_lt column (shift + plan.latches) && nat_le (shift + plan.latches) (column + tiles))
    && list_any (λ input. input == lane) plan.ins

-- the tiles of a plan that stands `shift` tile columns further east, and of its tape
abbrev pub taped_tiling : Plan → (shift tiles : ℕ) → Tiling
taped_tiling plan shift tiles column lane =
    if is_on_tape plan shift tiles column lane then Whole (Tile kind.East)
    else if nat_lt column shift then Nothing
    else tiling_of plan (column - shift) lane

-- the tiles of the drawing
abbrev pub drawn_tiling : Plan → Tiling
drawn_tiling plan = taped_tiling plan (tape_shift plan) (tape_tiles plan)

-- whether the electron of a bit 1 of the tape lies at the west side of a block: before the body, or
-- at its entry
abbrev pub is_taped : Plan → (column lane : ℕ) → Bool
is_taped plan column lane =
    nat_le column (tape_shift plan + plan.latches)
    && tape_bit plan (tape_shift plan + plan.latches - column) lane

-- the edges of the drawing that are lit at generation 0: those of the tape, and those that the
-- starts name
abbrev pub drawn_edges : Plan → Lit
drawn_edges plan (Beside column lane) =
    is_taped plan column lane || (nat_le (tape_shift plan) column
    && start_edges plan (Beside (column - tape_shift plan) lane))
drawn_edges plan (Above column lane) =
    nat_le (tape_shift plan) column && start_edges plan (Above (column - tape_shift plan) lane)

-- the plane of the drawing at generation 0
abbrev pub drawn_plane : (Kind → Drawing) → Plan → Plane
drawn_plane library plan = drawn library (drawn_tiling plan) (drawn_edges plan)
