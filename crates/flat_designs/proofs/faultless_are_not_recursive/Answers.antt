use Rattle.flat_designs.proofs.Faultless.{not_recursive}
use Rattle.flat_designs.proofs.faultless_are_not_recursive.Goals as goal

pub returns : goal.returns
returns c = not_recursive
