use Rattle.list_matching.proofs.Running.{matched_run_alike}
use Rattle.list_matching.proofs.alike.run_alike.Goals as goal

pub returns : goal.returns
returns c = λ alike. matched_run_alike _ _ _ _ (c.are_stand_ins.ensures alike)
