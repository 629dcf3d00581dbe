use Rattle.routed_circuits.proofs.Flats.{routed_texts_carry}
use Rattle.routed_circuits.proofs.laws.routed_texts_carry.Goals as goal

pub returns : goal.returns
returns c = routed_texts_carry
