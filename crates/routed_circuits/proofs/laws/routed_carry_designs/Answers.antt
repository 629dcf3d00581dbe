use Rattle.routed_circuits.proofs.Lifted.{routed_carry_designs}
use Rattle.routed_circuits.proofs.laws.routed_carry_designs.Goals as goal

pub returns : goal.returns
returns c = routed_carry_designs
