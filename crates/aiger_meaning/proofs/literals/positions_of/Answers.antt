use Rattle.std.proofs.Common.{◌-◌, arith}
use Rattle.aiger_meaning.proofs.NetIndex.{one_in_front}
use Rattle.aiger_meaning.proofs.literals.positions_of.Goals as goal

pub loop-net-preserved : goal.loop-net-preserved
loop-net-preserved c = one_in_front c.args.literals.now (c.loop-net.net - 1) c.loop-net.net c.loop-net.nets c.insert.new.self (omega arith) (omega arith) c.loop-net.invariant c.in_ok-insert.ensures.updates
