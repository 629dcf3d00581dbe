use Rattle.flat_designs.proofs.Whole.{cycles_are_flat}
use Rattle.flat_designs.proofs.cycles_are_flat.Goals as goal

pub returns : goal.returns
returns c = cycles_are_flat
