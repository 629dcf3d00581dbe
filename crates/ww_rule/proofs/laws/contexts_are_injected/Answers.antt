use Rattle.ww_rule.proofs.Contexts.{contexts_are_injected}
use Rattle.ww_rule.proofs.laws.contexts_are_injected.Goals as goal

pub returns : goal.returns
returns c = contexts_are_injected
