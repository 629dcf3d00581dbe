use Rattle.std.proofs.Common.{arith}
use Rattle.netlist_meaning.specs.InOrder.{subckt_words}
use Rattle.design_walks.specs.Words.{as_ports}
use Rattle.design_walks.proofs.Added.{flat_added}
use Rattle.design_walks.proofs.words.push_subckts.Goals as goal

pub loop-line-preserved : goal.loop-line-preserved
loop-line-preserved c =
    flat_added subckt_words (as_ports c.args.words.now.items) (as_ports c.loop-line.words.items) (as_ports c.push_subckt.new.words.items) c.args.lines.now c.loop-line.line-index c.line-item.result (omega arith) c.line-item.is
    c.in_ok-push_subckt.ensures c.loop-line.invariant
