use Rattle.aiger_plans.proofs.Carried.{aigs_are_carried}
use Rattle.aiger_plans.proofs.laws.aigs_are_carried.Goals as goal

pub returns : goal.returns
returns c = aigs_are_carried
