use Rattle.program_laws.proofs.NetlistRuns.{netlist_runs_agree}
use Rattle.program_laws.proofs.netlist_runs_agree.Goals as goal

pub returns : goal.returns
returns c = netlist_runs_agree
