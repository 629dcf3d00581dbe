use Rattle.ww_rule.proofs.Turns.{drives_turned_too}
use Rattle.ww_rule.proofs.laws.drives_turned.Goals as goal

pub returns : goal.returns
returns c = drives_turned_too
