use Rattle.plan_waves.proofs.Begin.{begins}
use Rattle.plan_waves.proofs.tapes.tapes_begin.Goals as goal

pub returns : goal.returns
returns c = λ plan h starts. begins plan h h.tape starts
