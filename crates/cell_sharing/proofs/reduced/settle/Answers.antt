use Rattle.cell_sharing.proofs.Spared.{alike}
use Rattle.cell_sharing.proofs.reduced.settle.Goals as goal

pub returns-in-Some-find_cell : goal.returns-in-Some-find_cell
returns-in-Some-find_cell c = alike c.args.list.now c.in-Some-find_cell.src c.args.cell c.turned.result c.in-Some-find_cell.ensures c.turned.ensures
