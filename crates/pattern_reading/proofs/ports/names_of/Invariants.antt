use Rattle.std.proofs.Common.{◌≡◌, take}
use Rattle.pattern_reading.specs.Ports.{names_of}
use Rattle.pattern_reading.proofs.ports.names_of.Given as goal

abbrev pub invariant-loop-port : goal.invariant-loop-port
invariant-loop-port l = l.names.items ≡ names_of (take l.port-index l.ports)
