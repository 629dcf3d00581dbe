use Rattle.carries.proofs.Cycles.{carries_onward, carries_each_front}
use Rattle.carries.proofs.carries_onward.Goals as goal

pub returns-clause-onward : goal.returns-clause-onward
returns-clause-onward c = carries_onward

pub returns-clause-each_front : goal.returns-clause-each_front
returns-clause-each_front c = carries_each_front
