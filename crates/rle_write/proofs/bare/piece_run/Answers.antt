use Rattle.std.proofs.Common.{◌-◌, sym, subst}
use Rattle.tile_library.specs.RowRuns.{IsRowRun}
use Rattle.plan_layout.specs.Slots.{piece_of}
use Rattle.rle_write.specs.Dark.{bare_piece}
use Rattle.rle_write.proofs.bare.piece_run.Goals as goal

pub returns-in-Tile : goal.returns-in-Tile
returns-in-Tile c =
    subst (λ piece. IsRowRun (λ x. bare_piece (piece_of piece) x c.args.y) c.args.x (32 - c.args.x) c.tile_run.result) (sym c.in-Tile.is) c.tile_run.ensures
