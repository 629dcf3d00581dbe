use Rattle.carries.proofs.OneContext.{one_context_carries, one_context_carries_nets, one_context_carries_flat}
use Rattle.carries.proofs.one_context_carries.Goals as goal

pub returns-clause-design : goal.returns-clause-design
returns-clause-design c = one_context_carries

pub returns-clause-nets : goal.returns-clause-nets
returns-clause-nets c = one_context_carries_nets

pub returns-clause-flat : goal.returns-clause-flat
returns-clause-flat c = one_context_carries_flat
