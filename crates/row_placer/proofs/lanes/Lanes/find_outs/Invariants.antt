use Rattle.std.proofs.Common.{◌≡◌, ◌≤◌, ◌+◌, ◌-◌, length}
use Rattle.row_placer.specs.Placed.{AreOuts}
use Rattle.row_placer.proofs.lanes.Lanes.find_outs.Given as goal

abbrev pub invariant-loop-port : goal.invariant-loop-port
invariant-loop-port l =
    AreOuts l.fn.self.job l.fn.loops l.fn.self.tags.items l.outs.items × (length l.outs.items + l.fn.loops ≡ l.port) × (l.port ≤ length l.fn.self.job.ports)

abbrev pub decreases-loop-port : goal.decreases-loop-port
decreases-loop-port l = length l.fn.self.job.ports - l.port
