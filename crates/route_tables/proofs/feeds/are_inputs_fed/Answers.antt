use Rattle.std.proofs.Common.{below_more}
use Rattle.route_tables.proofs.feeds.are_inputs_fed.Goals as goal

pub loop-input-preserved : goal.loop-input-preserved
loop-input-preserved c = below_more _ _ c.loop-input.invariant (c.is_fed_rightly.ensures c.if-not-is_fed_rightly.false)
