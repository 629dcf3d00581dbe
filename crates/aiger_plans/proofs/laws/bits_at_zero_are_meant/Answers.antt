use Rattle.aiger_plans.proofs.Zeros.{bits_at_zero_are_meant}
use Rattle.aiger_plans.proofs.laws.bits_at_zero_are_meant.Goals as goal

pub returns : goal.returns
returns c = bits_at_zero_are_meant
