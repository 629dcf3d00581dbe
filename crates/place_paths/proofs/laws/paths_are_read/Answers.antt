use Rattle.place_paths.proofs.Paths.{paths_are_read}
use Rattle.place_paths.proofs.laws.paths_are_read.Goals as goal

pub returns : goal.returns
returns c = paths_are_read
