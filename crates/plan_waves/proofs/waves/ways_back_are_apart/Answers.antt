use Rattle.plan_waves.proofs.Loops.{ways_back_are_apart}
use Rattle.plan_waves.proofs.waves.ways_back_are_apart.Goals as goal

pub returns : goal.returns
returns c = ways_back_are_apart
