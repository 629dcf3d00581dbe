use Rattle.std.proofs.Common.{arith}
use Rattle.netlist_meaning.specs.InOrder.{cover_words}
use Rattle.design_walks.specs.Words.{as_ports}
use Rattle.design_walks.proofs.Added.{flat_added}
use Rattle.design_walks.proofs.words.push_covers.Goals as goal

pub loop-cover-preserved : goal.loop-cover-preserved
loop-cover-preserved c =
    flat_added cover_words (as_ports c.args.words.now.items) (as_ports c.loop-cover.words.items) (as_ports c.push_cover.new.words.items) c.args.covers.now c.loop-cover.cover-index c.cover-item.result (omega arith) c.cover-item.is
    c.in_ok-push_cover.ensures c.loop-cover.invariant
