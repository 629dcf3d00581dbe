use Rattle.plan_carries.proofs.Designs.{designs_run_by_themselves}
use Rattle.plan_carries.proofs.designs_run_by_themselves.Goals as goal

pub returns : goal.returns
returns c = designs_run_by_themselves
