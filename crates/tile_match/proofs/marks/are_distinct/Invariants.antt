use Rattle.std.proofs.Common.{take}
use Rattle.tile_match.proofs.LaneMarks.{AreMarkedOnce}
use Rattle.tile_match.proofs.marks.are_distinct.Given as goal

-- the lanes so far are marked, each once
abbrev pub invariant-loop-lane : goal.invariant-loop-lane
invariant-loop-lane l = AreMarkedOnce l.limit (take l.lane-index l.lanes) l.marks.items
