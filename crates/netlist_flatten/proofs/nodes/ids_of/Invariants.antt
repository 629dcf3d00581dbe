use Rattle.std.proofs.Common.{◌≡◌, map, take}
use Rattle.netlist_meaning.specs.FlatOf.{id_of}
use Rattle.netlist_flatten.specs.Numbered.{place_at}
use Rattle.netlist_flatten.proofs.nodes.ids_of.Given as goal

abbrev pub invariant-loop-name : goal.invariant-loop-name
invariant-loop-name l = l.ids.items ≡ map (id_of l.numbers (place_at l.numbers l.at)) (take l.name-index l.names)
