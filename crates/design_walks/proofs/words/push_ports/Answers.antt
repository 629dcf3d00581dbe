use Rattle.std.proofs.Common.{arith}
use Rattle.design_walks.specs.Words.{as_ports}
use Rattle.design_walks.proofs.Added.{taken_added}
use Rattle.design_walks.proofs.words.push_ports.Goals as goal

pub loop-port-preserved : goal.loop-port-preserved
loop-port-preserved c =
    taken_added (as_ports c.args.words.now.items) (as_ports c.loop-port.words.items) (as_ports c.push_name.new.words.items) c.args.ports.now c.loop-port.port-index c.port-item.result (omega arith) c.port-item.is
    c.in_ok-push_name.ensures c.loop-port.invariant
