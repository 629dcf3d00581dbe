use Rattle.std.proofs.Common.{ℕ, ap, ◌∙◌, List}
use Rattle.netlist_core.specs.declared.flat.NetId.{NetId}
use Rattle.clock_check.specs.Uses.{uses_on, earliest_among, earliest_with}
use Rattle.clock_check.proofs.Earliest.{node_more}
use Rattle.clock_check.proofs.uses.earliest_in_node.Goals as goal

pub returns : goal.returns
returns c =
    let flat = c.args.clocks.now in
    let node = c.args.node.now in
    node_more flat c.args.found c.earliest_on-among_ins.result c.earliest_with.result node
    (c.earliest_on-among_ins.ensures ∙ ap (λ (nets : List NetId). earliest_among flat c.args.found (uses_on node.line 0 nets)) c.as_slice.ensures)
    (c.earliest_with.ensures ∙ ap (λ (n : ℕ). earliest_with flat c.earliest_on-among_ins.result (record { line = node.line; position = n; net = node.out })) c.len.ensures)
