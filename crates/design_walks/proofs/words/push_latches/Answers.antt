use Rattle.std.proofs.Common.{arith}
use Rattle.netlist_meaning.specs.InOrder.{latch_words}
use Rattle.design_walks.specs.Words.{as_ports}
use Rattle.design_walks.proofs.Added.{flat_added}
use Rattle.design_walks.proofs.words.push_latches.Goals as goal

pub loop-latch-preserved : goal.loop-latch-preserved
loop-latch-preserved c =
    flat_added latch_words (as_ports c.args.words.now.items) (as_ports c.loop-latch.words.items) (as_ports c.push_latch.new.words.items) c.args.latches.now c.loop-latch.latch-index c.latch-item.result (omega arith) c.latch-item.is
    c.in_ok-push_latch.ensures c.loop-latch.invariant
