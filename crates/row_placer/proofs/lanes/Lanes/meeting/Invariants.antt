use Rattle.std.proofs.Common.{◌≤◌, ◌<◌, ◌-◌, ℕ}
use Rattle.row_placer.proofs.lanes.Lanes.meeting.Given as goal

pub record Fingers (upper lower i j : ℕ) : Type 0 where
  pub low : upper ≤ i
  pub order : i < j
  pub high : j ≤ lower

abbrev pub invariant-loop-i : goal.invariant-loop-i
invariant-loop-i l = Fingers l.fn.upper l.fn.lower l.i l.j

abbrev pub decreases-loop-i : goal.decreases-loop-i
decreases-loop-i l = l.j - l.i
