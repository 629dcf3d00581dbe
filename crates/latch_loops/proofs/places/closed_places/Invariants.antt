use Rattle.std.proofs.Common.{◌≡◌, map, take}
use Rattle.latch_loops.specs.Places.{closed_place}
use Rattle.latch_loops.proofs.places.closed_places.Given as goal

abbrev pub invariant-loop-place : goal.invariant-loop-place
invariant-loop-place l = l.closed.items ≡ map (closed_place l.instrs) (take l.place-index l.places)
