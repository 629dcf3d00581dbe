use Rattle.std.proofs.Common.{◌≡◌, ◌++◌, map, take}
use Rattle.netlist_meaning.specs.FlatOf.{flat_node}
use Rattle.netlist_flatten.specs.Numbered.{place_at}
use Rattle.netlist_flatten.proofs.nodes.push_nodes.Given as goal

abbrev pub invariant-loop-cover : goal.invariant-loop-cover
invariant-loop-cover l = l.nodes.items ≡ l.initial.nodes.items ++ map (flat_node l.numbers (place_at l.numbers l.at)) (take l.cover-index l.cover-items)
