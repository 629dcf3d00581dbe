use Rattle.plan_carries.proofs.Tapes.{tapes_run_by_themselves}
use Rattle.plan_carries.proofs.tapes_run_by_themselves.Goals as goal

pub returns : goal.returns
returns c = tapes_run_by_themselves
