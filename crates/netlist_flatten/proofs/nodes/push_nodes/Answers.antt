use Rattle.std.proofs.Common.{sym, ◌∙◌, ap, List, ◌++◌, map}
use Rattle.std.proofs.lemmas.List.{take_all}
use Rattle.lists.proofs.Cuts.{added_more}
use Rattle.netlist_flatten.specs.Numbered.{place_at}
use Rattle.netlist_flatten.proofs.Listing.{item_in, cover_nets}
use Rattle.netlist_core.specs.declared.model.Cover.{Cover}
use Rattle.netlist_core.specs.declared.model.Model.{Model}
use Rattle.netlist_meaning.specs.InOrder.{of_some}
use Rattle.netlist_meaning.specs.FlatOf.{flat_node}
use Rattle.netlist_flatten.proofs.nodes.push_nodes.Goals as goal

pub node_of-requires-clause-nets : goal.node_of-requires-clause-nets
node_of-requires-clause-nets c =
    cover_nets c.args.numbers.now (place_at c.args.numbers.now c.args.at) c.model.result.now c.cover-item.result c.model.ensures
    (item_in c.as_slice-cover-items.result.now c.model.result.now.covers c.loop-cover.cover-index c.cover-item.result c.as_slice-cover-items.ensures c.loop-cover-test.true c.cover-item.is)

pub loop-cover-preserved : goal.loop-cover-preserved
loop-cover-preserved c =
    let flat = flat_node c.args.numbers.now (place_at c.args.numbers.now c.args.at) in
    added_more flat c.args.nodes.now.items c.loop-cover.nodes.items c.push.new.self.items c.as_slice-cover-items.result.now c.loop-cover.cover-index c.cover-item.result c.in_ok-node_of.field-0 c.loop-cover-test.true
    (c.in_ok-push.ensures {u = tt}).items ((c.in_ok-node_of.ensures {u = tt}) ∙ ap flat c.cover-item.is) c.loop-cover.invariant

pub returns : goal.returns
returns c =
    let flat = flat_node c.args.numbers.now (place_at c.args.numbers.now c.args.at) in
    c.loop-cover.invariant
    ∙ ap (λ (covers : List Cover). c.args.nodes.now.items ++ map flat covers)
    (take_all c.loop-cover.cover-index c.as_slice-cover-items.result.now c.loop-cover-test.false
    ∙ c.as_slice-cover-items.ensures ∙ sym (ap (of_some (λ (model : Model). model.covers)) c.model.ensures))
