use Rattle.plan_carries.proofs.Designs.{designs_are_carried_in_contexts}
use Rattle.plan_carries.proofs.designs_are_carried_in_contexts.Goals as goal

pub returns : goal.returns
returns c = designs_are_carried_in_contexts
