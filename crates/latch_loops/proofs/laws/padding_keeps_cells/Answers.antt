use Rattle.latch_loops.proofs.Cells.{padding_keeps_cells}
use Rattle.latch_loops.proofs.laws.padding_keeps_cells.Goals as goal

pub returns : goal.returns
returns c = padding_keeps_cells
