use Rattle.carries.proofs.Cycles.{carries_cycles, carries_net_cycles}
use Rattle.carries.proofs.carries_cycles.Goals as goal

pub returns-clause-outputs : goal.returns-clause-outputs
returns-clause-outputs c = carries_cycles

pub returns-clause-nets : goal.returns-clause-nets
returns-clause-nets c = carries_net_cycles
