use Rattle.plan_carries.proofs.Carried.{planes_show_runs}
use Rattle.plan_carries.proofs.planes_show_runs.Goals as goal

pub returns : goal.returns
returns c = planes_show_runs
