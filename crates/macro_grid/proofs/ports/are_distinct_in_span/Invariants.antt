use Rattle.std.proofs.Common.{take}
use Rattle.macro_grid.proofs.Spans.{IsMarked}
use Rattle.macro_grid.proofs.ports.are_distinct_in_span.Given as goal

abbrev pub invariant-loop-lane : goal.invariant-loop-lane
invariant-loop-lane l = IsMarked 65536 l.from (take l.lane-index l.lanes) l.marks
