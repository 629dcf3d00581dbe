use Rattle.latch_loops.proofs.Cells.{closing_keeps_cells}
use Rattle.latch_loops.proofs.laws.closing_keeps_cells.Goals as goal

pub returns : goal.returns
returns c = closing_keeps_cells
