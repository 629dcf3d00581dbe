use Rattle.flat_designs.proofs.Loops.{loops_are_flat}
use Rattle.flat_designs.proofs.loops_are_flat.Goals as goal

pub returns : goal.returns
returns c = loops_are_flat
