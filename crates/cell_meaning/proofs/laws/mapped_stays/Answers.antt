use Rattle.cell_meaning.proofs.Mapping.{mapped_stays}
use Rattle.cell_meaning.proofs.laws.mapped_stays.Goals as goal

pub returns : goal.returns
returns c = mapped_stays
