-- The plane cut into blocks of 32 columns and 16 rows, and what stands in each block.
use Rattle.std.specs.Prelude.{pos, negsuc, ℕ, ◌+◌, ◌-◌, ◌/◌, ◌%◌, ◌==◌, Bool, ◌&&◌, if◌then◌else◌, ltb, List, [], ◌∷◌, get_or}
use Rattle.ww_rule.specs.declared.pattern.State.{State}
use Rattle.ww_rule.specs.declared.pattern.State.TheVariants.{Empty}
use Rattle.ww_rule.specs.Wireworld.{Plane}
use Rattle.tile_core.specs.declared.kind.Kind.{Kind}
use Rattle.tile_core.specs.Drawing.{Cell, Drawing, picture, is_cell_of}
use Rattle.tile_core.specs.Interface.{Interface, exit_cells, lit_entries, chosen, cell_at}
use Rattle.tile_core.specs.Kinds.{interface}

-- what is drawn: a tile of a kind, or an output cell, which counts as a tile of one cell
pub data Piece : Type 0 where
  Tile : (kind : Kind) → Piece
  Output : Piece

-- an output cell is entered at its one cell and answers nothing
abbrev pub output_interface : Interface
output_interface = record { lanes = 1; entries = (0, 8) ∷ []; exits = []; answer = λ a b. [] }

abbrev pub output_drawing : Drawing
output_drawing x y = is_cell_of x y (cell_at (0, 8) ∷ [])

abbrev pub interface_of : Piece → Interface
interface_of (Tile kind) = interface kind
interface_of Output = output_interface

abbrev pub piece_drawing : (Kind → Drawing) → Piece → Drawing
piece_drawing library (Tile kind) = library kind
piece_drawing library Output = output_drawing

-- what stands in a block: nothing, a piece of one lane, or the upper or the lower lane of a piece
-- of two
pub data Slot : Type 0 where
  Nothing : Slot
  Whole : (piece : Piece) → Slot
  Upper : (piece : Piece) → Slot
  Lower : (piece : Piece) → Slot

-- what stands in each block, by tile column and lane: the block of column q and lane l has the
-- cells with x from 32 q to 32 q + 31 and y from 16 l to 16 l + 15
abbrev pub Tiling : Type 0
Tiling = ℕ → ℕ → Slot

-- an edge is a side at which two blocks meet: the west side of a block, or its north side
pub data Edge : Type 0 where
  Beside : (column lane : ℕ) → Edge
  Above : (column lane : ℕ) → Edge

-- which edges are lit
abbrev pub Lit : Type 0
Lit = Edge → Bool

-- the edge at which a port lies, by the port's place in the box of a piece whose first block is (q,
-- l)
abbrev pub edge_of : ℕ → ℕ → ℕ × ℕ → Edge
edge_of q l port =
    if port.0 == 0 then Beside q (l + port.1 / 16)
    else if port.0 == 31 then Beside (q + 1) (l + port.1 / 16)
    else if port.1 == 0 then Above q l
    else Above q (l + (port.1 + 1) / 16)

-- whether the n-th of the ports is lit; a tile of one lane has no second port
abbrev pub is_port_lit : Lit → ℕ → ℕ → ℕ → List (ℕ × ℕ) → ℕ → Bool
is_port_lit lit q l lanes ports n = ltb n lanes && lit (edge_of q l (get_or ports n (0, 0)))

abbrev pub is_entry_lit : Lit → ℕ → ℕ → Interface → ℕ → Bool
is_entry_lit lit q l tile = is_port_lit lit q l tile.lanes tile.entries

abbrev pub is_exit_lit : Lit → ℕ → ℕ → Interface → ℕ → Bool
is_exit_lit lit q l tile = is_port_lit lit q l tile.lanes tile.exits

-- the heads of a piece: its entry cells at lit edges
abbrev pub heads_of : Lit → ℕ → ℕ → Interface → List Cell
heads_of lit q l tile = lit_entries tile (is_entry_lit lit q l tile 0) (is_entry_lit lit q l tile 1)

-- the tails of a piece: its exit cells at lit edges
abbrev pub tails_of : Lit → ℕ → ℕ → Interface → List Cell
tails_of lit q l tile =
    chosen (exit_cells tile) (is_exit_lit lit q l tile 0 ∷ is_exit_lit lit q l tile 1 ∷ [])

-- a cell of a piece whose first block is (q, l), by its place in the piece's box
abbrev pub drawn_piece : (Kind → Drawing) → Lit → ℕ → ℕ → Piece → ℕ → ℕ → State
drawn_piece library lit q l piece x y =
    picture (piece_drawing library piece) (heads_of lit q l (interface_of piece))
    (tails_of lit q l (interface_of piece)) (pos x) (pos y)

-- a cell of the block (q, l), by its place in the block
abbrev pub drawn_slot : (Kind → Drawing) → Lit → ℕ → ℕ → Slot → ℕ → ℕ → State
drawn_slot library lit q l Nothing x y = Empty
drawn_slot library lit q l (Whole piece) x y = drawn_piece library lit q l piece x y
drawn_slot library lit q l (Upper piece) x y = drawn_piece library lit q l piece x y
drawn_slot library lit q l (Lower piece) x y = drawn_piece library lit q (l - 1) piece x (y + 16)

-- the plane of a tiling with these edges lit: a lit edge has a head at its entry cell and a tail at
-- its exit cell, if these exist, and all other drawn cells are conductors
abbrev pub drawn : (Kind → Drawing) → Tiling → Lit → Plane
drawn library tiling lit (pos x) (pos y) =
    drawn_slot library lit (x / 32) (y / 16) (tiling (x / 32) (y / 16)) (x % 32) (y % 16)
drawn library tiling lit (pos x) (negsuc y) = Empty
drawn library tiling lit (negsuc x) y = Empty
