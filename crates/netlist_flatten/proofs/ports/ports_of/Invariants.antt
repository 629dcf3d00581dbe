use Rattle.std.proofs.Common.{◌≡◌, map, take}
use Rattle.netlist_meaning.specs.FlatOf.{flat_port}
use Rattle.netlist_flatten.proofs.ports.ports_of.Given as goal

abbrev pub invariant-loop-port : goal.invariant-loop-port
invariant-loop-port l = l.flat.items ≡ map (flat_port l.numbers) (take l.port-index l.ports)
