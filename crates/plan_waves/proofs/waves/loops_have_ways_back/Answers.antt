use Rattle.plan_waves.proofs.Loops.{ways_back}
use Rattle.plan_waves.proofs.waves.loops_have_ways_back.Goals as goal

pub returns : goal.returns
returns c = ways_back
