use Rattle.routed_circuits.proofs.Lifted.{routed_are_lifted}
use Rattle.routed_circuits.proofs.laws.routed_are_lifted.Goals as goal

pub returns : goal.returns
returns c = routed_are_lifted
