use Rattle.std.proofs.Common.{◌≡◌, ◌+◌, ◌*◌, ◌-◌}
use Rattle.drive.specs.Runs.{HasGoneOn, planes_of}
use Rattle.drive.specs.Shown.{row_of_cycle}
use Rattle.drive.proofs.bits.row_of_cycle.Given as goal

abbrev pub invariant-loop-context : goal.invariant-loop-context
invariant-loop-context l =
    record {
      gone : HasGoneOn (l.first + 32 * (l.context - 1)) l.fn.run l.run;
      row : l.row.items ≡ row_of_cycle (planes_of l.fn.run) l.context l.first l.cells;
    }
