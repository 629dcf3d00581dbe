use Rattle.cell_core.proofs.Bits.{appending_keeps_bits}
use Rattle.cell_core.proofs.laws.appending_keeps_bits.Goals as goal

pub returns : goal.returns
returns c = appending_keeps_bits
