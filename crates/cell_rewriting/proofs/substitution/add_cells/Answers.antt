use Rattle.cell_rewriting.proofs.Substituting.{extends_itself, extends_then}
use Rattle.cell_rewriting.proofs.substitution.add_cells.Goals as goal

pub loop-cell-init : goal.loop-cell-init
loop-cell-init c = extends_itself c.args.list.now

pub loop-cell-preserved : goal.loop-cell-preserved
loop-cell-preserved c = extends_then c.args.list.now c.loop-cell.list c.add_cell.new.list c.loop-cell.invariant c.in_ok-add_cell.ensures
