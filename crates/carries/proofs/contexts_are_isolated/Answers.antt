use Rattle.carries.proofs.ContextCycles.{outputs_are_isolated, nets_are_isolated}
use Rattle.carries.proofs.contexts_are_isolated.Goals as goal

pub returns-clause-outputs : goal.returns-clause-outputs
returns-clause-outputs c = outputs_are_isolated

pub returns-clause-nets : goal.returns-clause-nets
returns-clause-nets c = nets_are_isolated
