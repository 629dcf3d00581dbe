use Rattle.std.proofs.Common.{◌≡◌, take}
use Rattle.netlist_meaning.specs.Flat.{port_classes}
use Rattle.cover_mapper.specs.Sourced.{sources_at}
use Rattle.cover_mapper.proofs.classes.sources_of_ports.Given as goal

abbrev pub invariant-loop-port : goal.invariant-loop-port
invariant-loop-port l = l.found.items ≡ sources_at l.sources (port_classes l.flat (take l.port-index l.ports))
