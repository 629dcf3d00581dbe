use Rattle.std.proofs.Common.{◌≡◌, ◌≤◌, ◌+◌, ◌*◌}
use Rattle.drive.specs.Driving.{last_from}
use Rattle.drive.specs.Runs.{HasGoneOn, planes_of}
use Rattle.drive.specs.Shown.{rows_of_cycles}
use Rattle.drive.proofs.bits.rows_of_cycles.Given as goal

abbrev pub invariant-loop-cycle : goal.invariant-loop-cycle
invariant-loop-cycle l =
    record {
      gone : HasGoneOn (l.first + l.cycle * l.ports.p) l.fn.run l.run;
      near : l.run.generation ≤ last_from l.first l.ports l.streams;
      rows : l.rows.items ≡ rows_of_cycles (planes_of l.fn.run) l.ports.c l.ports.p l.cycle l.first l.cells;
    }
