use Rattle.tiling.proofs.LitPieces.{steps_by_macro}
use Rattle.tiling.proofs.steps_by_macro.Goals as goal

pub returns : goal.returns
returns c = steps_by_macro
