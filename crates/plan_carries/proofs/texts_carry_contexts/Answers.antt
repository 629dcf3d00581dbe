use Rattle.plan_carries.proofs.Written.{texts_carry_contexts}
use Rattle.plan_carries.proofs.texts_carry_contexts.Goals as goal

pub returns : goal.returns
returns c = texts_carry_contexts
