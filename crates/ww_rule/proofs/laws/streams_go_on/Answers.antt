use Rattle.ww_rule.proofs.Lists.{streams_go_on}
use Rattle.ww_rule.proofs.laws.streams_go_on.Goals as goal

pub returns : goal.returns
returns c = streams_go_on
