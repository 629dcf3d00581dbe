use Rattle.std.proofs.Common.{sym, subst, max, length, arith}
use Rattle.row_placer.specs.Placed.{IsPlacedWithin}
use Rattle.row_placer.proofs.Finish.{within_more}
use Rattle.row_placer.proofs.placing.place_at.Goals as goal

pub returns-in-Ok : goal.returns-in-Ok
returns-in-Ok c =
    let list = c.args.list.now in
    within_more list c.min-spare.result (max list.inputs (length list.outs)) c.into_program.result
    (omega (arith, c.min-spare.ensures, c.most_spare.ensures)) (subst (IsPlacedWithin list c.min-spare.result) (sym c.into_program.ensures) c.shorten.ensures)
