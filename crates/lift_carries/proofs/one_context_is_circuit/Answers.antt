use Rattle.lift_carries.proofs.Starts.{one_context_is_circuit}
use Rattle.lift_carries.proofs.one_context_is_circuit.Goals as goal

pub returns : goal.returns
returns c = one_context_is_circuit
