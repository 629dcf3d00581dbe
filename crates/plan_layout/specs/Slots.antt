-- What the program's values for pieces and slots stand for.
use Rattle.tiling.specs.Tiling as tiling
use Rattle.plan_layout.specs.declared.slot.Piece.{Piece}
use Rattle.plan_layout.specs.declared.slot.Piece.TheVariants.{Tile, Output}
use Rattle.plan_layout.specs.declared.slot.Slot.{Slot}
use Rattle.plan_layout.specs.declared.slot.Slot.TheVariants.{Nothing, Whole, Upper, Lower}

abbrev pub piece_of : Piece → tiling.Piece
piece_of (Tile kind) = tiling.Piece.Tile kind
piece_of Output = tiling.Piece.Output

abbrev pub slot_of : Slot → tiling.Slot
slot_of Nothing = tiling.Slot.Nothing
slot_of (Whole piece) = tiling.Slot.Whole (piece_of piece)
slot_of (Upper piece) = tiling.Slot.Upper (piece_of piece)
slot_of (Lower piece) = tiling.Slot.Lower (piece_of piece)
