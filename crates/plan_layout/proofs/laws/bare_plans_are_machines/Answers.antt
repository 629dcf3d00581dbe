use Rattle.plan_layout.proofs.Bare.{bare}
use Rattle.plan_layout.proofs.laws.bare_plans_are_machines.Goals as goal

pub returns : goal.returns
returns c = bare
