use Rattle.std.proofs.Common.{below_more, arith}
use Rattle.route_tables.proofs.Following.{alone}
use Rattle.route_tables.proofs.alone.is_alone.Goals as goal

pub loop-j-preserved : goal.loop-j-preserved
loop-j-preserved c = below_more _ _ c.loop-j.invariant (c.is_row_alone.ensures c.if-not-is_row_alone.false)

pub returns : goal.returns
returns c = λ t.
    alone c.args.tables.now c.args.wire c.args.i c.in-Some.serials c.in-Some.ensures (λ j low. c.loop-j.invariant j (omega (arith, low)))
