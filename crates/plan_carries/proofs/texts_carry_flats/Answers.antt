use Rattle.plan_carries.proofs.Written.{texts_carry_flats}
use Rattle.plan_carries.proofs.texts_carry_flats.Goals as goal

pub returns : goal.returns
returns c = texts_carry_flats
