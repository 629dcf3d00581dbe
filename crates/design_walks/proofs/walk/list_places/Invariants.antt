use Rattle.std.proofs.Common.{length}
use Rattle.design_walks.specs.ToCome.{places_to_come}
use Rattle.design_walks.proofs.Walked.{IsWalk}
use Rattle.design_walks.proofs.walk.list_places.Given as goal

abbrev pub invariant-loop-placed : goal.invariant-loop-placed
invariant-loop-placed l = IsWalk l.design l.listed.items l.to_come.items

abbrev pub decreases-loop-placed : goal.decreases-loop-placed
decreases-loop-placed l = length (places_to_come l.design l.to_come.items)
