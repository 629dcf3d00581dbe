use Rattle.std.proofs.Common.{◌-◌, arith}
use Rattle.tile_library.specs.Drawings.{shipped_drawing}
use Rattle.plan_layout.specs.Tape.{drawn_edges}
use Rattle.tiling.specs.Tiling.{drawn_piece}
use Rattle.tiling.specs.Tiling.Piece.{Tile}
use Rattle.grid_assembly.proofs.RowRuns.{one_cell}
use Rattle.grid_assembly.proofs.runs.tile_run.Goals as goal

pub returns-else-is_row_dark : goal.returns-else-is_row_dark
returns-else-is_row_dark c =
    one_cell (λ x. drawn_piece shipped_drawing (drawn_edges c.args.plan.now) c.args.column c.args.lane (Tile c.args.kind) x c.args.place.1) c.args.place.0 (32 - c.args.place.0) c.tile_cell.result
    (omega (arith, c.requires.in_box))
    c.tile_cell.ensures
