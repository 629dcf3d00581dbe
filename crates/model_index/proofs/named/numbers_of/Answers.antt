use Rattle.std.proofs.Common.{◌-◌, arith}
use Rattle.model_index.proofs.Numbered.{numbered_more}
use Rattle.model_index.proofs.named.numbers_of.Goals as goal

pub loop-number-preserved : goal.loop-number-preserved
loop-number-preserved c = numbered_more c.args.models.now (c.loop-number.number - 1) c.loop-number.number c.index-models-number.result c.as_slice.result c.loop-number.numbers c.insert.new.self (omega arith) (omega arith) c.index-models-number.is (rw (← c.index-models-number.is) at c.as_slice.ensures) c.loop-number.invariant c.in_ok-insert.ensures.updates
