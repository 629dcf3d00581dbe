use Rattle.std.proofs.Common.{◌≡◌, ◌∷◌, take}
use Rattle.std.proofs.Common.{map}
use Rattle.std.specs.List.{join_with_byte}
use Rattle.model_index.specs.Numbers.{name_at}
use Rattle.model_circles.proofs.fault.joined_names.Given as goal

abbrev pub invariant-loop-n : goal.invariant-loop-n
invariant-loop-n l = l.word.items ≡ join_with_byte 32 (map (name_at l.models) (l.first ∷ take l.n-index l.others))
