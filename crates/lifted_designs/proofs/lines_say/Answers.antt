use Rattle.lifted_designs.proofs.Said.{lines_say}
use Rattle.lifted_designs.proofs.lines_say.Goals as goal

pub returns : goal.returns
returns c = lines_say
