use Rattle.std.proofs.Common.{sym, subst, ℕ, max, length, arith}
use Rattle.row_placer.specs.declared.placing.Placed.{Placed}
use Rattle.row_placer.specs.Placed.{IsPlacedWithin}
use Rattle.row_placer.proofs.Finish.{within_more}
use Rattle.row_placer.proofs.placing.try_spare.Goals as goal

pub place_with-requires-clause-spare : goal.place_with-requires-clause-spare
place_with-requires-clause-spare c = omega (arith, c.requires.spare, c.requires.small)

pub returns-then-area : goal.returns-then-area
returns-then-area c =
    let list = c.args.list.now in
    let most : ℕ = max list.inputs (length list.outs) in
    subst (λ (placed : Placed). IsPlacedWithin list most placed.program) (sym c.replace.ensures.after)
    (within_more list c.args.spare most c.in_ok-next.next.program c.requires.spare c.in_ok-next.ensures)

pub returns-else-area : goal.returns-else-area
returns-else-area c = c.requires.best
