use Rattle.clock_check.proofs.Earliest.{on_more}
use Rattle.clock_check.proofs.uses.earliest_on.Goals as goal

pub loop-position-preserved : goal.loop-position-preserved
loop-position-preserved c = on_more c.args.clocks.now c.args.found c.loop-position.found c.earliest_with-found.result c.args.line c.loop-position.position c.args.nets.now _ c.loop-position-test.true c.loop-position.invariant c.earliest_with-found.ensures
