use Rattle.std.proofs.Common.{arith}
use Rattle.row_placer.proofs.Exchanges.{exchanged_once_more}
use Rattle.row_placer.proofs.settling.exchanged.Goals as goal

pub loop-next-preserved : goal.loop-next-preserved
loop-next-preserved c =
    let i = c.loop-next.invariant in
    let e = c.exchange.ensures in
    record {
      exchanged = exchanged_once_more c.args.tags.now c.loop-next.after.items c.exchange.new.tags.items c.args.swaps.now c.loop-next.next
          c.loop-next-test.true (omega (arith, c.if-lane-len.false, c.len.ensures, c.loop-next.after.ok)) i.exchanged e.long e.moved;
      within = omega (arith, c.loop-next-test.true);
    }
