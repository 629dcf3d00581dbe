use Rattle.flat_designs.proofs.Weights.{flat_is_weighed}
use Rattle.flat_designs.proofs.flat_is_weighed.Goals as goal

pub returns : goal.returns
returns c = flat_is_weighed
