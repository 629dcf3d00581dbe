use Rattle.lift_carries.proofs.Drawings.{compiled_are_drawings}
use Rattle.lift_carries.proofs.compiled_are_drawings.Goals as goal

pub returns : goal.returns
returns c = compiled_are_drawings
