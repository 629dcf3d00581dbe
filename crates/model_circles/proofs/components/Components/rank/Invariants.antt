use Rattle.std.proofs.Common.{length, vec_len}
use Rattle.model_circles.specs.Ranks.{AreWithin}
use Rattle.model_circles.proofs.components.Components.rank.Given as goal

abbrev pub invariant-loop-m : goal.invariant-loop-m
invariant-loop-m l = AreWithin (length l.fn.self.notes.items) l.self

abbrev pub decreases-loop-m : goal.decreases-loop-m
decreases-loop-m l = vec_len l.self.open
