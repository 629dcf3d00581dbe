use Rattle.flat_designs.proofs.Whole.{flat_is_named}
use Rattle.flat_designs.proofs.flat_is_named.Goals as goal

pub returns : goal.returns
returns c = flat_is_named
