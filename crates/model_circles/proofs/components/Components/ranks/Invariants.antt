use Rattle.std.proofs.Common.{◌≡◌, length}
use Rattle.model_circles.proofs.components.Components.ranks.Given as goal

abbrev pub invariant-loop-note : goal.invariant-loop-note
invariant-loop-note l = length l.ranks.items ≡ l.note-index
