use Rattle.std.proofs.Common.{arith}
use Rattle.pin_faults.proofs.NamesAdded.{formal_added}
use Rattle.pin_faults.proofs.names.formals_of.Goals as goal

pub loop-pin-preserved : goal.loop-pin-preserved
loop-pin-preserved c =
    formal_added c.loop-pin.names c.insert.new.self c.as_slice.result c.args.line.now.line c.as_slice-pin-items.result.now c.loop-pin.pin-index c.pin-item.result (omega arith) c.pin-item.is c.as_slice.ensures c.loop-pin.invariant c.in_ok-insert.ensures.updates
