use Rattle.lifted_designs.proofs.Fine.{lines_break_none}
use Rattle.lifted_designs.proofs.lines_break_none.Goals as goal

pub returns : goal.returns
returns c = lines_break_none
