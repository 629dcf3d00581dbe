use Rattle.cell_polarity.proofs.Mapped.{complements_are_mapped, complements_have_bits}
use Rattle.cell_polarity.proofs.laws.complements_are_mapped.Goals as goal

pub returns-clause-mapped : goal.returns-clause-mapped
returns-clause-mapped c = complements_are_mapped

pub returns-clause-bits : goal.returns-clause-bits
returns-clause-bits c = complements_have_bits
