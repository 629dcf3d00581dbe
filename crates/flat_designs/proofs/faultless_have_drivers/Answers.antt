use Rattle.flat_designs.proofs.Sources.{have_drivers}
use Rattle.flat_designs.proofs.faultless_have_drivers.Goals as goal

pub returns : goal.returns
returns c = have_drivers
