-- Which edges are lit 32 generations later.
use Rattle.std.specs.Prelude.{ℕ, zero, suc, pos, ◌+◌, ◌-◌, Bool, false, ◌||◌}
use Rattle.tile_core.specs.Drawing.{is_cell_of}
use Rattle.tile_core.specs.Interface.{lit_exits}
use Rattle.tiling.specs.Tiling.{Piece, interface_of, Slot, Tiling, Lit, is_entry_lit}
use Rattle.tiling.specs.Tiling.Slot.{Nothing, Whole, Upper, Lower}
use Rattle.tiling.specs.Tiling.Edge.{Beside, Above}

-- the piece whose first block is (q, l) has an exit at this place of its box, and its answer to its
-- lit entry edges is 1 there
abbrev pub piece_answers : Lit → ℕ → ℕ → Piece → ℕ → ℕ → Bool
piece_answers lit q l piece x y =
    is_cell_of (pos x) (pos y) (lit_exits (interface_of piece)
    (is_entry_lit lit q l (interface_of piece) 0) (is_entry_lit lit q l (interface_of piece) 1))

-- the same for what stands in the block (q, l), by the place in the block
abbrev pub slot_answers : Lit → ℕ → ℕ → Slot → ℕ → ℕ → Bool
slot_answers lit q l Nothing x y = false
slot_answers lit q l (Whole piece) x y = piece_answers lit q l piece x y
slot_answers lit q l (Upper piece) x y = piece_answers lit q l piece x y
slot_answers lit q l (Lower piece) x y = piece_answers lit q (l - 1) piece x (y + 16)

-- an edge is lit afterwards exactly when it is an exit of a tile whose answer to its lit entry
-- edges is 1 there
abbrev pub macro_step : Tiling → Lit → Lit
macro_step tiling lit (Beside zero l) = slot_answers lit 0 l (tiling 0 l) 0 8
macro_step tiling lit (Beside (suc q) l) =
    slot_answers lit q l (tiling q l) 31 8 || slot_answers lit (suc q) l (tiling (suc q) l) 0 8
macro_step tiling lit (Above q zero) = slot_answers lit q 0 (tiling q 0) 16 0
macro_step tiling lit (Above q (suc l)) =
    slot_answers lit q l (tiling q l) 16 15 || slot_answers lit q (suc l) (tiling q (suc l)) 16 0
