use Rattle.place_paths.proofs.Paths.{paths_are_distinct}
use Rattle.place_paths.proofs.laws.paths_are_distinct.Goals as goal

pub returns : goal.returns
returns c = paths_are_distinct
