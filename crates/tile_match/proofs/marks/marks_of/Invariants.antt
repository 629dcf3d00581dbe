use Rattle.std.proofs.Common.{take}
use Rattle.tile_match.proofs.LaneMarks.{AreMarks}
use Rattle.tile_match.proofs.marks.marks_of.Given as goal

-- the lanes so far are marked
abbrev pub invariant-loop-lane : goal.invariant-loop-lane
invariant-loop-lane l = AreMarks l.limit (take l.lane-index l.lanes) l.marks.items
