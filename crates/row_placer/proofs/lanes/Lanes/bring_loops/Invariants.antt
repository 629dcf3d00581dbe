use Rattle.std.proofs.Common.{◌≤◌, ◌*◌, ◌-◌, length}
use Rattle.row_placer.specs.Ready.{AreSettled, HoldAllPorts}
use Rattle.row_placer.specs.Steps.{KeepsGates, AddsAtMost}
use Rattle.row_placer.proofs.lanes.Lanes.bring_loops.Given as goal

abbrev pub invariant-loop-port : goal.invariant-loop-port
invariant-loop-port l = record {
  settled : AreSettled l.fn.self.job l.port l.self.tags.items;
  held : HoldAllPorts l.fn.self.job l.self.tags.items;
  adds : AddsAtMost l.fn.self l.self (l.port * length l.fn.self.tags.items);
  within : l.port ≤ l.fn.loops;
  kept : KeepsGates l.fn.self l.self;
}

abbrev pub decreases-loop-port : goal.decreases-loop-port
decreases-loop-port l = l.fn.loops - l.port
