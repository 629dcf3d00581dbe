use Rattle.cell_order.proofs.Planned.{alike_is_planned}
use Rattle.cell_order.proofs.laws.alike_is_planned.Goals as goal

pub returns : goal.returns
returns c = alike_is_planned
