use Rattle.std.proofs.Common.{◌≡◌, take}
use Rattle.netlist_meaning.specs.Flat.{names_of_ports}
use Rattle.netlist_text.proofs.names.names_of_ports.Given as goal

abbrev pub invariant-loop-port : goal.invariant-loop-port
invariant-loop-port l = l.names.items ≡ names_of_ports l.flat (take l.port-index l.ports)
