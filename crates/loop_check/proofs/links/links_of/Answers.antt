use Rattle.std.proofs.Common.{[], arith}
use Rattle.lists.proofs.Fills.{filled_more}
use Rattle.loop_check.specs.Links.{AreDriversOf}
use Rattle.loop_check.proofs.links.links_of.Goals as goal

pub loop-n-preserved : goal.loop-n-preserved
loop-n-preserved c =
    filled_more (AreDriversOf c.args.flat.now) [] c.loop-n.n c.loop-n.links.items c.push.new.self.items c.in_ok-drivers_of.field-0 c.loop-n.invariant (c.in_ok-push.ensures {u = tt}).items c.in_ok-drivers_of.ensures

pub returns : goal.returns
returns c = record {
  long = (let long = c.loop-n.invariant.0 in omega (arith, long, c.len-n-end.ensures, c.loop-n-test.false, c.loop-n.auto.n-end));
  each = λ n l. c.loop-n.invariant.1 n (omega (arith, l, c.len-n-end.ensures, c.loop-n-test.false));
}
