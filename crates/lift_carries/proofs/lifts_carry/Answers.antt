use Rattle.lift_carries.proofs.Lifted.{lifts_carry}
use Rattle.lift_carries.proofs.lifts_carry.Goals as goal

pub returns : goal.returns
returns c = lifts_carry
