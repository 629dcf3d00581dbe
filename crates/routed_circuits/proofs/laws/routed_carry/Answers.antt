use Rattle.routed_circuits.proofs.Routed.{routed_carry}
use Rattle.routed_circuits.proofs.laws.routed_carry.Goals as goal

pub returns : goal.returns
returns c = routed_carry
