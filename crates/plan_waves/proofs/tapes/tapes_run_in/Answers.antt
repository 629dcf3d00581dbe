use Rattle.plan_waves.proofs.RunIn.{runs_in}
use Rattle.plan_waves.proofs.tapes.tapes_run_in.Goals as goal

pub returns : goal.returns
returns c = runs_in
