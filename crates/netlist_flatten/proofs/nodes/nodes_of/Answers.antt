use Rattle.std.proofs.Common.{◌∙◌, arith}
use Rattle.netlist_core.specs.declared.model.Model.{Model}
use Rattle.netlist_meaning.specs.FlatOf.{flat_node}
use Rattle.netlist_flatten.proofs.Listing.{listed_more, listed_all}
use Rattle.netlist_flatten.proofs.nodes.nodes_of.Goals as goal

pub loop-at-preserved : goal.loop-at-preserved
loop-at-preserved c =
    listed_more c.args.numbers.now (λ (model : Model). model.covers) (flat_node c.args.numbers.now) c.loop-at.at c.loop-at.nodes.items c.push_nodes.new.nodes.items (omega (arith, c.loop-at-test.true, c.len-at-end.ensures))
    c.loop-at.invariant (c.in_ok-push_nodes.ensures {u = tt})

pub returns : goal.returns
returns c =
    c.loop-at.invariant
    ∙ listed_all c.args.numbers.now (λ (model : Model). model.covers) (flat_node c.args.numbers.now) c.loop-at.at (omega (arith, c.loop-at-test.false, c.len-at-end.ensures))
