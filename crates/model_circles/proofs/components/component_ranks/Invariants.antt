use Rattle.std.proofs.Common.{length}
use Rattle.model_circles.specs.Ranks.{AreWithin}
use Rattle.model_circles.proofs.components.component_ranks.Given as goal

abbrev pub invariant-loop-n : goal.invariant-loop-n
invariant-loop-n l = AreWithin (length l.models) l.components
