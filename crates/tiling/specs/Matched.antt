-- Tilings whose pieces fit together.
use Rattle.std.specs.Prelude.{ℕ, pos, ◌+◌, ◌≡◌, Bool, false, ◌&&◌}
use Rattle.tile_core.specs.Drawing.{is_cell_of}
use Rattle.tile_core.specs.Interface.{entry_cells, exit_cells}
use Rattle.tiling.specs.Tiling.{Piece, interface_of, Slot, Tiling}
use Rattle.tiling.specs.Tiling.Slot.{Nothing, Whole, Upper, Lower}

-- whether the block's piece is entered at this place of the block
abbrev pub is_entered : Slot → ℕ → ℕ → Bool
is_entered Nothing x y = false
is_entered (Whole piece) x y = is_cell_of (pos x) (pos y) (entry_cells (interface_of piece))
is_entered (Upper piece) x y = is_cell_of (pos x) (pos y) (entry_cells (interface_of piece))
is_entered (Lower piece) x y = is_cell_of (pos x) (pos (y + 16)) (entry_cells (interface_of piece))

-- whether the block's piece is left at this place of the block
abbrev pub is_left : Slot → ℕ → ℕ → Bool
is_left Nothing x y = false
is_left (Whole piece) x y = is_cell_of (pos x) (pos y) (exit_cells (interface_of piece))
is_left (Upper piece) x y = is_cell_of (pos x) (pos y) (exit_cells (interface_of piece))
is_left (Lower piece) x y = is_cell_of (pos x) (pos (y + 16)) (exit_cells (interface_of piece))

-- a piece of one lane stands alone, and those of two lanes in two blocks, one above the other
pub record HasWholePieces (tiling : Tiling) : Type 0 where
  pub one : (q l : ℕ) (p : Piece) → tiling q l ≡ Whole p → (interface_of p).lanes ≡ 1
  pub two : (q l : ℕ) (p : Piece) → tiling q l ≡ Upper p → (interface_of p).lanes ≡ 2
  pub below : (q l : ℕ) (p : Piece) → tiling q l ≡ Upper p → tiling q (l + 1) ≡ Lower p
  pub above : (q l : ℕ) (p : Piece) → tiling q (l + 1) ≡ Lower p → tiling q l ≡ Upper p
  pub first : (q : ℕ) (p : Piece) → tiling q 0 ≡ Lower p → ⊥

-- where two blocks meet, an entry never faces an entry, and an exit never faces an exit
pub record IsMatched (tiling : Tiling) : Type 0 where
  pub pieces : HasWholePieces tiling
  pub entries_beside : (q l : ℕ) → (is_entered (tiling q l) 31 8
      && is_entered (tiling (q + 1) l) 0 8) ≡ false
  pub exits_beside : (q l : ℕ) → (is_left (tiling q l) 31 8 && is_left (tiling (q + 1) l) 0 8)
      ≡ false
  pub entries_above : (q l : ℕ) → (is_entered (tiling q l) 16 15
      && is_entered (tiling q (l + 1)) 16 0) ≡ false
  pub exits_above : (q l : ℕ) → (is_left (tiling q l) 16 15 && is_left (tiling q (l + 1)) 16 0)
      ≡ false
