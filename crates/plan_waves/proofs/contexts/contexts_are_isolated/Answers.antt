use Rattle.plan_waves.proofs.IsolatedContexts.{contexts_are_isolated}
use Rattle.plan_waves.proofs.contexts.contexts_are_isolated.Goals as goal

pub returns : goal.returns
returns c = contexts_are_isolated
