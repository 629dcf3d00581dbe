use Rattle.vcd_write.proofs.Variables.{nets_have_their_bits}
use Rattle.vcd_write.proofs.laws.nets_have_their_bits.Goals as goal

pub returns : goal.returns
returns c = nets_have_their_bits
