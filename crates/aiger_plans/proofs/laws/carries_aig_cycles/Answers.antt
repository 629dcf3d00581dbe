use Rattle.aiger_plans.proofs.Cycles.{carries_aig_cycles, one_aig_run_is_shown}
use Rattle.aiger_plans.proofs.laws.carries_aig_cycles.Goals as goal

pub returns-clause-outputs : goal.returns-clause-outputs
returns-clause-outputs c = carries_aig_cycles

pub returns-clause-one_run : goal.returns-clause-one_run
returns-clause-one_run c = one_aig_run_is_shown
