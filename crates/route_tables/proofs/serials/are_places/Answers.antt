use Rattle.std.proofs.Common.{below_more}
use Rattle.route_tables.proofs.serials.are_places.Goals as goal

pub loop-k-preserved : goal.loop-k-preserved
loop-k-preserved c = below_more _ _ c.loop-k.invariant (c.is_listed_at.ensures c.if-not-is_listed_at.false)
