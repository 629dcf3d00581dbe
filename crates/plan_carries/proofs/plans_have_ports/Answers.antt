use Rattle.plan_carries.proofs.Written.{plans_have_ports}
use Rattle.plan_carries.proofs.plans_have_ports.Goals as goal

pub returns : goal.returns
returns c = plans_have_ports
