use Rattle.std.proofs.Common.{arith}
use Rattle.model_words.proofs.NamesAdded.{port_added}
use Rattle.model_words.proofs.ports.push_ports.Goals as goal

pub loop-port-preserved : goal.loop-port-preserved
loop-port-preserved c =
    port_added c.args.names.now c.loop-port.names c.insert.new.self c.as_slice.result c.args.ports.now c.loop-port.port-index c.port-item.result (omega arith) c.port-item.is c.as_slice.ensures c.loop-port.invariant c.in_ok-insert.ensures.updates
