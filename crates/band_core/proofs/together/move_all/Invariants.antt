use Rattle.std.proofs.Common.{◌≤◌, ◌-◌}
use Rattle.band_core.specs.Together.{CanMoveOn, HaveMovedOn}
use Rattle.band_core.proofs.together.move_all.Given as goal

abbrev pub invariant-loop-left : goal.invariant-loop-left
invariant-loop-left l =
    record {
      few : l.left ≤ l.n;
      can_move : CanMoveOn l.left l.columns l.height l.rows l.bands;
      moved : HaveMovedOn (l.n - l.left) l.columns l.height l.rows l.fn.bands l.bands;
    }

abbrev pub decreases-loop-left : goal.decreases-loop-left
decreases-loop-left l = l.left
