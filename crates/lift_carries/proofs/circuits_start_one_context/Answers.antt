use Rattle.lift_carries.proofs.Starts.{circuits_start_one_context}
use Rattle.lift_carries.proofs.circuits_start_one_context.Goals as goal

pub returns : goal.returns
returns c = circuits_start_one_context
