use Rattle.circuit_plans.proofs.Ordered.{starts_are_of_loops}
use Rattle.circuit_plans.proofs.laws.starts_are_of_loops.Goals as goal

pub returns : goal.returns
returns c = starts_are_of_loops
