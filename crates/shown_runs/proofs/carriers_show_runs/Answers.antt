use Rattle.shown_runs.proofs.Shown.{carriers_show_runs}
use Rattle.shown_runs.proofs.carriers_show_runs.Goals as goal

pub returns : goal.returns
returns c = carriers_show_runs
