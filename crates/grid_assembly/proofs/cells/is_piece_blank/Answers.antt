use Rattle.std.proofs.Common.{◌∙◌, ap}
use Rattle.plan_layout.specs.Slots.{piece_of}
use Rattle.tile_library.specs.Drawings.{shipped_drawing}
use Rattle.tiling.specs.Tiling.{drawn_piece}
use Rattle.grid_assembly.proofs.Blank.{undrawn}
use Rattle.grid_assembly.proofs.cells.is_piece_blank.Goals as goal

pub returns-in-Tile : goal.returns-in-Tile
returns-in-Tile c =
    λ e edges column lane x. (
    ap (λ piece. drawn_piece shipped_drawing edges column lane (piece_of piece) x c.args.y) c.in-Tile.is
    ∙ undrawn edges column lane c.in-Tile.kind x c.args.y (c.is_row_blank.ensures e x))
