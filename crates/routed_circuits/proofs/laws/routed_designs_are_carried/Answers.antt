use Rattle.routed_circuits.proofs.Flats.{routed_designs_are_carried}
use Rattle.routed_circuits.proofs.laws.routed_designs_are_carried.Goals as goal

pub returns : goal.returns
returns c = routed_designs_are_carried
