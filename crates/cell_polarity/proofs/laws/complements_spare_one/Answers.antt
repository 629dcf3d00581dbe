use Rattle.cell_polarity.proofs.Mapped.{complements_spare_one}
use Rattle.cell_polarity.proofs.laws.complements_spare_one.Goals as goal

pub returns : goal.returns
returns c = complements_spare_one
