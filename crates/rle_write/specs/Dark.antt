-- Rows of cells without electrons.
use Rattle.std.specs.Prelude.{ℕ, pos, ◌+◌, ◌*◌, ◌/◌, ◌%◌, ◌<◌, ◌≡◌, List, cond, map}
use Rattle.std.specs.List.{range_with_len}
use Rattle.ww_rule.specs.declared.pattern.State.{State}
use Rattle.ww_rule.specs.declared.pattern.State.TheVariants.{Empty, Conductor}
use Rattle.tiling.specs.Tiling.{Piece, Slot, piece_drawing}
use Rattle.tiling.specs.Tiling.Slot.{Nothing, Whole, Upper, Lower}
use Rattle.tile_library.specs.Drawings.{shipped_drawing}
use Rattle.lane_core.specs.declared.plan.Plan.{Plan}
use Rattle.plan_layout.specs.Tape.{drawn_plane, drawn_tiling}

-- a cell of a piece as it is drawn, by its place in the piece's box
abbrev pub bare_piece : Piece → ℕ → ℕ → State
bare_piece piece x y = cond (piece_drawing shipped_drawing piece (pos x) (pos y)) Conductor Empty

-- a cell of what stands in a block as it is drawn, by its place in the block
abbrev pub bare_slot : Slot → ℕ → ℕ → State
bare_slot Nothing x y = Empty
bare_slot (Whole piece) x y = bare_piece piece x y
bare_slot (Upper piece) x y = bare_piece piece x y
bare_slot (Lower piece) x y = bare_piece piece x (y + 16)

-- a row of such cells
abbrev pub bare_row : Slot → ℕ → List State
bare_row slot y = map (λ x. bare_slot slot x y) (range_with_len 0 32)

-- no electron stands in row y: its cells are those that are drawn in its blocks
abbrev pub IsDark : Plan → ℕ → Type 0
IsDark plan y =
    (k x : ℕ) → x < 32 → drawn_plane shipped_drawing plan (pos (32 * k + x)) (pos y)
    ≡ bare_slot (drawn_tiling plan k (y / 16)) x (y % 16)
