use Rattle.flat_designs.proofs.Whole.{flat_is_one}
use Rattle.flat_designs.proofs.flat_is_one.Goals as goal

pub returns : goal.returns
returns c = flat_is_one
