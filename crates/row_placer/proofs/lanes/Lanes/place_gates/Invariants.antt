use Rattle.std.proofs.Common.{◌≡◌, ◌≤◌, ◌*◌, ◌-◌, length}
use Rattle.row_placer.specs.Ready.{ReadyForGate}
use Rattle.row_placer.specs.Steps.{AddsAtMost}
use Rattle.row_placer.proofs.lanes.Lanes.place_gates.Given as goal

abbrev pub invariant-loop-self : goal.invariant-loop-self
invariant-loop-self l = record {
  ready : ReadyForGate l.fn.self.job (length l.self.made.items) l.self.tags.items l.left;
  adds : AddsAtMost l.fn.self l.self (length l.self.made.items * (3 * length l.fn.self.tags.items));
  within : length l.self.made.items ≤ length l.fn.self.job.gates;
  job : l.self.job ≡ l.fn.self.job;
  left : length l.left ≡ length l.fn.left;
}

abbrev pub decreases-loop-self : goal.decreases-loop-self
decreases-loop-self l = length l.fn.self.job.gates - length l.self.made.items
