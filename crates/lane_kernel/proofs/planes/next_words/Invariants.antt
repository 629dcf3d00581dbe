use Rattle.std.proofs.Common.{◌≤◌, ◌-◌}
use Rattle.lane_kernel.specs.Around.{AreNextWords}
use Rattle.lane_kernel.proofs.planes.next_words.Given as goal

abbrev pub invariant-loop-i : goal.invariant-loop-i
invariant-loop-i l =
    record {
      from : l.first ≤ l.i;
      within : l.i ≤ l.end;
      stepped : AreNextWords l.stride l.heads l.fn.tails l.cells l.first l.i l.tails;
    }

abbrev pub decreases-loop-i : goal.decreases-loop-i
decreases-loop-i l = l.end - l.i
