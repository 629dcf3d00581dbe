use Rattle.flat_designs.proofs.Whole.{designs_have_one_valuation}
use Rattle.program_laws.proofs.laws.designs_have_one_valuation.Goals as goal

pub returns : goal.returns
returns c = designs_have_one_valuation
