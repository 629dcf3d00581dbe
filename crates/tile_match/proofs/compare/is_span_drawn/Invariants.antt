use Rattle.std.proofs.Common.{◌-◌, ◌≤◌}
use Rattle.tile_match.specs.Drawn.{IsSpanDrawn}
use Rattle.tile_match.proofs.compare.is_span_drawn.Given as goal

-- the cells so far are the plan's
abbrev pub invariant-loop-x : goal.invariant-loop-x
invariant-loop-x l =
    record {
      begun : l.from ≤ l.x;
      drawn : IsSpanDrawn l.plan l.cells l.y l.from l.x;
    }

abbrev pub decreases-loop-x : goal.decreases-loop-x
decreases-loop-x l = l.until - l.x
