use Rattle.made_summary.proofs.InTime.{runs_are_bounded, few_cycles_are_in_time}
use Rattle.made_summary.proofs.laws.few_cycles_are_in_time.Goals as goal

pub returns-clause-bounded : goal.returns-clause-bounded
returns-clause-bounded c = runs_are_bounded

pub returns-clause-in_time : goal.returns-clause-in_time
returns-clause-in_time c = few_cycles_are_in_time
