use Rattle.routed_circuits.proofs.Labels.{labelled_are_drawn}
use Rattle.routed_circuits.proofs.laws.labelled_are_drawn.Goals as goal

pub returns : goal.returns
returns c = labelled_are_drawn
