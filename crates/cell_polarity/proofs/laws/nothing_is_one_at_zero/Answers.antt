use Rattle.cell_polarity.proofs.Zeros.{nothing_is_one_at_zero}
use Rattle.cell_polarity.proofs.laws.nothing_is_one_at_zero.Goals as goal

pub returns : goal.returns
returns c = nothing_is_one_at_zero
