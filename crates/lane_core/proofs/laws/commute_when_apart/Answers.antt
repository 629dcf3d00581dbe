use Rattle.lane_core.proofs.Commuting.{commute_when_apart}
use Rattle.lane_core.proofs.laws.commute_when_apart.Goals as goal

pub returns : goal.returns
returns c = commute_when_apart
