use Rattle.tiling.proofs.Driven.{driven_by_macro}
use Rattle.tiling.proofs.is_driven_by_macro.Goals as goal

pub returns : goal.returns
returns c = driven_by_macro
