use Rattle.std.proofs.Common.{◌∙◌, arith}
use Rattle.netlist_core.specs.declared.model.Model.{Model}
use Rattle.netlist_meaning.specs.FlatOf.{flat_latch}
use Rattle.netlist_flatten.proofs.Listing.{listed_more, listed_all}
use Rattle.netlist_flatten.proofs.latches.latches_of.Goals as goal

pub loop-at-preserved : goal.loop-at-preserved
loop-at-preserved c =
    listed_more c.args.numbers.now (λ (model : Model). model.latches) (flat_latch c.args.numbers.now) c.loop-at.at c.loop-at.latches.items c.push_latches.new.latches.items (omega (arith, c.loop-at-test.true, c.len-at-end.ensures))
    c.loop-at.invariant (c.in_ok-push_latches.ensures {u = tt})

pub returns : goal.returns
returns c =
    c.loop-at.invariant
    ∙ listed_all c.args.numbers.now (λ (model : Model). model.latches) (flat_latch c.args.numbers.now) c.loop-at.at (omega (arith, c.loop-at-test.false, c.len-at-end.ensures))
