use Rattle.plan_carries.proofs.Designs.{designs_are_carried}
use Rattle.plan_carries.proofs.designs_are_carried.Goals as goal

pub returns : goal.returns
returns c = designs_are_carried
