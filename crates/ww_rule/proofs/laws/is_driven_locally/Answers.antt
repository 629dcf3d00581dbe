use Rattle.ww_rule.proofs.DrivenPlanes.{is_driven_locally}
use Rattle.ww_rule.proofs.laws.is_driven_locally.Goals as goal

pub returns : goal.returns
returns c = is_driven_locally
