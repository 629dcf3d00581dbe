use Rattle.std.proofs.Common.{below_more}
use Rattle.route_cells.proofs.electrons.wrong_cell.Goals as goal

pub loop-i-preserved : goal.loop-i-preserved
loop-i-preserved c = below_more _ _ c.loop-i.invariant (c.shows_cell.ensures c.if-not-shows_cell.false)
