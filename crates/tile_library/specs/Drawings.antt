-- The drawings, as tests on cells.
use Rattle.std.specs.Prelude.{pos, negsuc, ℕ, ◌==◌, false, List, [], get_or}
use Rattle.tile_core.specs.declared.kind.Kind.{Kind}
use Rattle.tile_core.specs.declared.kind.Kind.TheVariants.{Swap, Xor, Or, AndNot, Fork, East, South, North, EastSouth, SouthWest, WestNorth, NorthEast, West, WestSwap}
use Rattle.tile_core.specs.Drawing.{Drawing}
use Rattle.tile_timing.specs.Mirror.{mirrored_drawing}
use Rattle.tile_library.specs.declared.drawings.TheConstants.{SWAP, XOR, OR, AND_NOT, FORK, EAST, SOUTH, EAST_SOUTH, SOUTH_WEST, WEST_NORTH, NORTH_EAST}

-- what rows of text draw: the byte 67, which is a C, is a conductor
abbrev pub drawn_rows : List (List ℕ) → Drawing
drawn_rows rows (pos x) (pos y) = get_or (get_or rows y []) x 46 == 67
drawn_rows rows (pos x) (negsuc y) = false
drawn_rows rows (negsuc x) y = false

-- the drawing of each kind
abbrev pub shipped_drawing : Kind → Drawing
shipped_drawing Swap = drawn_rows SWAP
shipped_drawing Xor = drawn_rows XOR
shipped_drawing Or = drawn_rows OR
shipped_drawing AndNot = drawn_rows AND_NOT
shipped_drawing Fork = drawn_rows FORK
shipped_drawing East = drawn_rows EAST
shipped_drawing South = drawn_rows SOUTH
shipped_drawing North = drawn_rows SOUTH
shipped_drawing EastSouth = drawn_rows EAST_SOUTH
shipped_drawing SouthWest = drawn_rows SOUTH_WEST
shipped_drawing WestNorth = drawn_rows WEST_NORTH
shipped_drawing NorthEast = drawn_rows NORTH_EAST
shipped_drawing West = drawn_rows EAST
shipped_drawing WestSwap = mirrored_drawing (drawn_rows SWAP)
