use Rattle.routed_circuits.proofs.Shown.{routed_show_runs}
use Rattle.routed_circuits.proofs.laws.routed_show_runs.Goals as goal

pub returns : goal.returns
returns c = routed_show_runs
