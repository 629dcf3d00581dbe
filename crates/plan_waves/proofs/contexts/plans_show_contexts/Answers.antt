use Rattle.plan_waves.proofs.ShownContexts.{plans_show_contexts}
use Rattle.plan_waves.proofs.contexts.plans_show_contexts.Goals as goal

pub returns : goal.returns
returns c = plans_show_contexts
