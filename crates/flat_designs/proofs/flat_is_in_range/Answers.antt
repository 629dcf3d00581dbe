use Rattle.flat_designs.proofs.Sound.{flat_is_in_range}
use Rattle.flat_designs.proofs.flat_is_in_range.Goals as goal

pub returns : goal.returns
returns c = flat_is_in_range
