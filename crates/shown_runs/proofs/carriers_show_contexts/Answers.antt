use Rattle.shown_runs.proofs.ShownContexts.{carriers_show_contexts}
use Rattle.shown_runs.proofs.carriers_show_contexts.Goals as goal

pub returns : goal.returns
returns c = carriers_show_contexts
