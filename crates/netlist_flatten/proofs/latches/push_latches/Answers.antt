use Rattle.std.proofs.Common.{sym, ◌∙◌, ap, List, ◌++◌, map}
use Rattle.std.proofs.lemmas.List.{take_all}
use Rattle.lists.proofs.Cuts.{added_more}
use Rattle.netlist_flatten.specs.Numbered.{place_at}
use Rattle.netlist_flatten.proofs.Listing.{item_in, latch_nets}
use Rattle.netlist_core.specs.declared.model.LatchRow.{LatchRow}
use Rattle.netlist_core.specs.declared.model.Model.{Model}
use Rattle.netlist_meaning.specs.InOrder.{of_some}
use Rattle.netlist_meaning.specs.FlatOf.{flat_latch}
use Rattle.netlist_flatten.proofs.latches.push_latches.Goals as goal

pub latch_of-requires-clause-nets : goal.latch_of-requires-clause-nets
latch_of-requires-clause-nets c =
    latch_nets c.args.numbers.now (place_at c.args.numbers.now c.args.at) c.model.result.now c.latch-item.result c.model.ensures
    (item_in c.as_slice-latch-items.result.now c.model.result.now.latches c.loop-latch.latch-index c.latch-item.result c.as_slice-latch-items.ensures c.loop-latch-test.true c.latch-item.is)

pub loop-latch-preserved : goal.loop-latch-preserved
loop-latch-preserved c =
    let flat = flat_latch c.args.numbers.now (place_at c.args.numbers.now c.args.at) in
    added_more flat c.args.latches.now.items c.loop-latch.latches.items c.push.new.self.items c.as_slice-latch-items.result.now c.loop-latch.latch-index c.latch-item.result c.latch_of.result c.loop-latch-test.true
    (c.in_ok-push.ensures {u = tt}).items (c.latch_of.ensures ∙ ap flat c.latch-item.is) c.loop-latch.invariant

pub returns : goal.returns
returns c =
    let flat = flat_latch c.args.numbers.now (place_at c.args.numbers.now c.args.at) in
    c.loop-latch.invariant
    ∙ ap (λ (latches : List LatchRow). c.args.latches.now.items ++ map flat latches)
    (take_all c.loop-latch.latch-index c.as_slice-latch-items.result.now c.loop-latch-test.false
    ∙ c.as_slice-latch-items.ensures ∙ sym (ap (of_some (λ (model : Model). model.latches)) c.model.ensures))
