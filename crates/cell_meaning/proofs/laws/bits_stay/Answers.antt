use Rattle.cell_meaning.proofs.Mapping.{bits_stay}
use Rattle.cell_meaning.proofs.laws.bits_stay.Goals as goal

pub returns : goal.returns
returns c = bits_stay
