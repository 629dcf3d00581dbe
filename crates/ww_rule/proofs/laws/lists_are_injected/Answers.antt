use Rattle.ww_rule.proofs.Lists.{lists_are_injected}
use Rattle.ww_rule.proofs.laws.lists_are_injected.Goals as goal

pub returns : goal.returns
returns c = lists_are_injected
