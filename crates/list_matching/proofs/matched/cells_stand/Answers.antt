use Rattle.std.proofs.Common.{below_more, arith}
use Rattle.list_matching.proofs.Running.{stands_at}
use Rattle.list_matching.proofs.matched.cells_stand.Goals as goal

pub loop-n-preserved : goal.loop-n-preserved
loop-n-preserved c =
    below_more _ _ c.loop-n.invariant
    (stands_at c.args.wanted.now c.args.found.now c.args.cells.now c.args.latches.now c.loop-n.n _ _ c.loop-n-test.true c.requires.all
    c.cell_over.result c.cell_over.ensures (c.stands_for_cell.ensures c.if-not-stands_for_cell.false))

pub returns : goal.returns
returns c = λ _ n lt. c.loop-n.invariant n (omega (arith, lt, c.loop-n-test.false))
