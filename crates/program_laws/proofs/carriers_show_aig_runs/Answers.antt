use Rattle.program_laws.proofs.ShownAigs.{carriers_show_aig_runs}
use Rattle.program_laws.proofs.carriers_show_aig_runs.Goals as goal

pub returns : goal.returns
returns c = carriers_show_aig_runs
