use Rattle.routed_circuits.proofs.Carried.{lists_are_carried}
use Rattle.routed_circuits.proofs.laws.lists_are_carried.Goals as goal

pub returns : goal.returns
returns c = lists_are_carried
