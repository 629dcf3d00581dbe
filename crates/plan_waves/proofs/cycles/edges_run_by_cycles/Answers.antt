use Rattle.plan_waves.proofs.Machine.{edges_run_by_cycles}
use Rattle.plan_waves.proofs.cycles.edges_run_by_cycles.Goals as goal

pub returns : goal.returns
returns c = edges_run_by_cycles
