use Rattle.clock_check.proofs.Earliest.{outs_more}
use Rattle.clock_check.proofs.uses.earliest_in_outs.Goals as goal

pub loop-position-preserved : goal.loop-position-preserved
loop-position-preserved c = outs_more c.args.clocks.now c.args.found c.loop-position.found c.earliest_with-found.result c.loop-position.position c.args.outs.now _ c.loop-position-test.true c.loop-position.invariant c.earliest_with-found.ensures
