use Rattle.std.proofs.Common.{◌≡◌, map, take}
use Rattle.netlist_meaning.specs.Flat.{name_of_net}
use Rattle.netlist_text.proofs.names.net_names.Given as goal

abbrev pub invariant-loop-net : goal.invariant-loop-net
invariant-loop-net l = l.names.items ≡ map (name_of_net l.flat) (take l.net-index l.nets)
