use Rattle.std.proofs.Common.{◌≡◌, ◌≤◌, ◌+◌, length, drop}
use Rattle.row_placer.specs.Uses.{owed_ports, AreCounted}
use Rattle.row_placer.proofs.counting.count_ports.Given as goal

abbrev pub invariant-loop-port : goal.invariant-loop-port
invariant-loop-port l =
    AreCounted l.left (drop l.port l.fn.ports) × (length l.left ≡ length l.fn.left) × (l.owed ≡ owed_ports (drop l.port l.fn.ports)) × (l.port ≤ length l.fn.ports)
    × (l.owed + l.port ≤ length l.fn.ports)

abbrev pub decreases-loop-port : goal.decreases-loop-port
decreases-loop-port l = l.port
