use Rattle.flat_designs.proofs.OneDriver.{at_most_one_driver}
use Rattle.flat_designs.proofs.faultless_have_at_most_one_driver.Goals as goal

pub returns : goal.returns
returns c = at_most_one_driver
