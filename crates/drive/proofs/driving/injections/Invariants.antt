use Rattle.std.proofs.Common.{◌≡◌}
use Rattle.std.specs.Prelude.{flat_map}
use Rattle.std.specs.List.{range_with_len}
use Rattle.drive.proofs.Streamed.{at_cycle}
use Rattle.drive.proofs.driving.injections.Given as goal

abbrev pub invariant-loop-cycle : goal.invariant-loop-cycle
invariant-loop-cycle l = l.due.items ≡ flat_map (at_cycle l.ports l.streams) (range_with_len 0 l.cycle)
