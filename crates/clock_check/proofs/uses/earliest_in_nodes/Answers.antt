use Rattle.std.proofs.Common.{None, ap, ◌∙◌}
use Rattle.netlist_core.specs.declared.flat.Node.{Node}
use Rattle.clock_check.specs.Uses.{uses_of_node, earliest_among}
use Rattle.clock_check.proofs.Earliest.{lines_more}
use Rattle.clock_check.proofs.uses.earliest_in_nodes.Goals as goal

pub loop-node-preserved : goal.loop-node-preserved
loop-node-preserved c =
    lines_more uses_of_node c.args.clocks.now None c.loop-node.found c.earliest_in_node-found.result c.loop-node.node-index c.args.nodes.now c.node-item.result c.loop-node-test.true c.loop-node.invariant
    (c.earliest_in_node-found.ensures ∙ ap (λ (node : Node). earliest_among c.args.clocks.now c.loop-node.found (uses_of_node node)) c.node-item.is)
