use Rattle.plan_waves.proofs.Loops.{loops_come_round}
use Rattle.plan_waves.proofs.waves.loops_come_round.Goals as goal

pub returns : goal.returns
returns c = loops_come_round
