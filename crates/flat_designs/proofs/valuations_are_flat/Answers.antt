use Rattle.flat_designs.proofs.Valuations.{valuations_are_flat}
use Rattle.flat_designs.proofs.valuations_are_flat.Goals as goal

pub returns : goal.returns
returns c = valuations_are_flat
