use Rattle.plan_waves.proofs.TapesShown.{shows_by_itself}
use Rattle.plan_waves.proofs.tapes.tapes_show_rows.Goals as goal

pub returns : goal.returns
returns c = λ library law plan h starts. shows_by_itself library law plan h h.tape starts
