use Rattle.std.proofs.Common.{length}
use Rattle.model_circles.specs.Ranks.{AreWithin}
use Rattle.model_circles.proofs.components.Components.reach.Given as goal

abbrev pub invariant-loop-step : goal.invariant-loop-step
invariant-loop-step l = AreWithin (length l.models) l.self
