use Rattle.carries.proofs.ContextCycles.{carries_each_context, carries_nets_of_each_context}
use Rattle.carries.proofs.carries_each_context.Goals as goal

pub returns-clause-outputs : goal.returns-clause-outputs
returns-clause-outputs c = carries_each_context

pub returns-clause-nets : goal.returns-clause-nets
returns-clause-nets c = carries_nets_of_each_context
