use Rattle.std.proofs.Common.{◌≡◌, None, flat_map, take}
use Rattle.clock_check.specs.Uses.{uses_of_node, earliest_among}
use Rattle.clock_check.proofs.uses.earliest_in_nodes.Given as goal

abbrev pub invariant-loop-node : goal.invariant-loop-node
invariant-loop-node l = l.found ≡ earliest_among l.clocks None (flat_map uses_of_node (take l.node-index l.nodes))
