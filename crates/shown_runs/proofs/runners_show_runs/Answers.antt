use Rattle.shown_runs.proofs.ByItself.{runners_show_runs}
use Rattle.shown_runs.proofs.runners_show_runs.Goals as goal

pub returns : goal.returns
returns c = runners_show_runs
