use Rattle.clock_check.specs.Uses.{uses_of_latch}
use Rattle.clock_check.proofs.Earliest.{lines_more}
use Rattle.clock_check.proofs.uses.earliest_in_latches.Goals as goal

pub loop-latch-preserved : goal.loop-latch-preserved
loop-latch-preserved c = lines_more uses_of_latch c.args.clocks.now c.args.found c.loop-latch.found c.earliest_on-found.result c.loop-latch.latch-index c.args.latches.now _ c.loop-latch-test.true c.loop-latch.invariant c.earliest_on-found.ensures
