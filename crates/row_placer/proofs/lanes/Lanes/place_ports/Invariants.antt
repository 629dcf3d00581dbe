use Rattle.std.proofs.Common.{◌≤◌, ◌*◌, ◌-◌, length}
use Rattle.row_placer.specs.Ready.{ReadyForPort, HoldPorts}
use Rattle.row_placer.specs.Steps.{KeepsGates, AddsAtMost}
use Rattle.row_placer.proofs.lanes.Lanes.place_ports.Given as goal

abbrev pub invariant-loop-port : goal.invariant-loop-port
invariant-loop-port l = record {
  ready : ReadyForPort l.fn.self.job l.port l.self.tags.items l.left;
  held : HoldPorts l.fn.self.job l.port l.self.tags.items;
  adds : AddsAtMost l.fn.self l.self (l.port * length l.fn.self.tags.items);
  within : l.port ≤ length l.fn.self.job.ports;
  kept : KeepsGates l.fn.self l.self;
}

abbrev pub decreases-loop-port : goal.decreases-loop-port
decreases-loop-port l = length l.fn.self.job.ports - l.port
