use Rattle.plan_waves.proofs.FreePorts.{ports_stand_free}
use Rattle.plan_waves.proofs.beside.ports_stand_free.Goals as goal

pub returns : goal.returns
returns c = ports_stand_free
