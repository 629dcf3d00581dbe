use Rattle.routed_circuits.proofs.Routed.{gates_carry}
use Rattle.routed_circuits.proofs.laws.gates_carry.Goals as goal

pub returns : goal.returns
returns c = gates_carry
