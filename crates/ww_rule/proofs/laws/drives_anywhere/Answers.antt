use Rattle.ww_rule.proofs.DrivenPlanes.{drives_anywhere}
use Rattle.ww_rule.proofs.laws.drives_anywhere.Goals as goal

pub returns : goal.returns
returns c = drives_anywhere
