use Rattle.lane_homes.proofs.Marks.{AreMarked}
use Rattle.lane_homes.proofs.apart.are_apart_below.Given as goal

abbrev pub invariant-loop-lane : goal.invariant-loop-lane
invariant-loop-lane l = AreMarked l.limit l.lane-index l.lanes l.marks.items
