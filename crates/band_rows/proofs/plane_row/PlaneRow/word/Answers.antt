use Rattle.std.proofs.Common.{sym}
use Rattle.lane_kernel.proofs.PlaneRows.{row_word}
use Rattle.band_rows.proofs.plane_row.PlaneRow.word.Goals as goal

pub returns : goal.returns
returns c =
    let self = c.args.self.now in
    sym (row_word self.columns self.stride self.plane.now self.r c.args.c c.requires)
