use Rattle.std.proofs.Common.{sym, subst, None, get_or, arith}
use Rattle.lists.proofs.Fills.{filled_more, filled_whole}
use Rattle.loop_check.specs.Links.{IsDriverOf}
use Rattle.loop_check.proofs.Nodes.{driver_is, past_inputs, inputs_are}
use Rattle.loop_check.proofs.links.drivers_of.Goals as goal

pub loop-input-preserved : goal.loop-input-preserved
loop-input-preserved c =
    let long = inputs_are c.args.flat.now c.args.n c.get.result.now c.get.ensures in
    filled_more (IsDriverOf c.args.flat.now c.args.n) None c.loop-input.input c.loop-input.drivers.items c.push.new.self.items c.driver_at.result c.loop-input.invariant (c.in_ok-push.ensures {u = tt}).items
    (driver_is c.args.flat.now c.requires.sound c.args.n c.loop-input.input c.driver_at.result (omega (arith, long, c.len-count.ensures, c.loop-input-test.true)) c.driver_at.ensures)

pub returns : goal.returns
returns c k =
    let long = inputs_are c.args.flat.now c.args.n c.get.result.now c.get.ensures in
    subst (λ drivers. IsDriverOf c.args.flat.now c.args.n k (get_or drivers k None)) (sym c.of.ensures)
    (filled_whole (IsDriverOf c.args.flat.now c.args.n) None c.loop-input.input c.loop-input.drivers.items c.loop-input.invariant
    (λ i l. past_inputs c.args.flat.now c.args.n i (omega (arith, l, long, c.len-count.ensures, c.loop-input-test.false))) k)
