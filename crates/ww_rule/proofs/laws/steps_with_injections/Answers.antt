use Rattle.ww_rule.proofs.Lists.{steps_with_injections}
use Rattle.ww_rule.proofs.laws.steps_with_injections.Goals as goal

pub returns : goal.returns
returns c = steps_with_injections
