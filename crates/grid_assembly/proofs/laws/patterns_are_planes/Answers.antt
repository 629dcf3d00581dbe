use Rattle.grid_assembly.proofs.Pattern.{patterns_are_planes}
use Rattle.grid_assembly.proofs.laws.patterns_are_planes.Goals as goal

pub returns : goal.returns
returns c = patterns_are_planes
