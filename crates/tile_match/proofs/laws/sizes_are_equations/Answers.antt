use Rattle.tile_match.proofs.Equations.{sizes_are_equations}
use Rattle.tile_match.proofs.laws.sizes_are_equations.Goals as goal

pub returns : goal.returns
returns c = sizes_are_equations
