use Rattle.std.proofs.Common.{◌∙◌, ap, ℕ, List, ◌++◌, arith}
use Rattle.netlist_meaning.specs.FlatOf.{class_of_net}
use Rattle.netlist_flatten.proofs.Listing.{nets_more, nets_all}
use Rattle.netlist_flatten.proofs.classes.classes_of.Goals as goal

pub loop-at-preserved : goal.loop-at-preserved
loop-at-preserved c =
    nets_more c.args.numbers.now (class_of_net c.args.numbers.now) c.loop-at.at c.loop-at.classes.items c.extend_from_slice.new.self.items (omega (arith, c.loop-at-test.true, c.len-at-end.ensures)) c.loop-at.invariant
    ((c.in_ok-extend_from_slice.ensures {u = tt}).items ∙ ap (λ (own : List ℕ). c.loop-at.classes.items ++ own) (c.deref-in-loop-at.ensures.value ∙ c.in_ok-own.ensures {u = tt}))

pub returns : goal.returns
returns c =
    c.loop-at.invariant ∙ nets_all c.args.numbers.now (class_of_net c.args.numbers.now) c.loop-at.at (omega (arith, c.loop-at-test.false, c.len-at-end.ensures))
