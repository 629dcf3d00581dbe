use Rattle.std.proofs.Common.{◌↔◌, length}
use Rattle.route_lines.specs.GateLines.{AreGateLines}
use Rattle.route_lines.proofs.comments.are_gate_lines.Given as goal

abbrev pub invariant-loop-rest : goal.invariant-loop-rest
invariant-loop-rest l = AreGateLines l.rest ↔ AreGateLines l.fn.bytes

abbrev pub decreases-loop-rest : goal.decreases-loop-rest
decreases-loop-rest l = length l.rest
