use Rattle.std.proofs.Common.{◌≤◌, ◌-◌}
use Rattle.row_placer.specs.Ready.{AreSettled}
use Rattle.row_placer.proofs.settling.are_settled.Given as goal

abbrev pub invariant-loop-port : goal.invariant-loop-port
invariant-loop-port l = record {
  settled : AreSettled l.fn.job l.port l.fn.tags;
  within : l.port ≤ l.fn.loops;
}

abbrev pub decreases-loop-port : goal.decreases-loop-port
decreases-loop-port l = l.fn.loops - l.port
