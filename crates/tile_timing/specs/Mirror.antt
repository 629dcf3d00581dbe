-- Tiles with west and east exchanged.
use Rattle.std.specs.Prelude.{pos, ◌-ℤ◌, ◌≡◌, Bool, map}
use Rattle.tile_core.specs.Drawing.{Cell, Drawing}
use Rattle.tile_core.specs.Interface.{Interface, entry_cells, exit_cells}

-- the columns x and 31 - x are exchanged
abbrev pub mirrored_drawing : Drawing → Drawing
mirrored_drawing drawing x y = drawing (pos 31 -ℤ x) y

abbrev pub mirrored_cell : Cell → Cell
mirrored_cell c = record { x = pos 31 -ℤ c.x; y = c.y }

-- the mirror has the tile's answers, and its ports mirrored
pub record IsMirrorOf (tile mirror : Interface) : Type 0 where
  pub lanes : mirror.lanes ≡ tile.lanes
  pub entries : entry_cells mirror ≡ map mirrored_cell (entry_cells tile)
  pub exits : exit_cells mirror ≡ map mirrored_cell (exit_cells tile)
  pub answer : (a b : Bool) → mirror.answer a b ≡ tile.answer a b
