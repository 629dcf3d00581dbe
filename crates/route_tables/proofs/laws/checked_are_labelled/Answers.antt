use Rattle.route_tables.proofs.Drawn.{checked_are_labelled}
use Rattle.route_tables.proofs.laws.checked_are_labelled.Goals as goal

pub returns : goal.returns
returns c = checked_are_labelled
