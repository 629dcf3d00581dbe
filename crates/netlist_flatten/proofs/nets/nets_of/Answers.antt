use Rattle.std.proofs.Common.{◌∙◌, arith}
use Rattle.netlist_meaning.specs.FlatOf.{flat_net}
use Rattle.netlist_flatten.proofs.Listing.{nets_more, nets_all}
use Rattle.netlist_flatten.proofs.nets.nets_of.Goals as goal

pub loop-at-preserved : goal.loop-at-preserved
loop-at-preserved c =
    nets_more c.args.numbers.now (flat_net c.args.numbers.now) c.loop-at.at c.loop-at.nets.items c.push_nets.new.nets.items (omega (arith, c.loop-at-test.true, c.len-at-end.ensures)) c.loop-at.invariant
    (c.in_ok-push_nets.ensures {u = tt})

pub returns : goal.returns
returns c =
    c.loop-at.invariant ∙ nets_all c.args.numbers.now (flat_net c.args.numbers.now) c.loop-at.at (omega (arith, c.loop-at-test.false, c.len-at-end.ensures))
