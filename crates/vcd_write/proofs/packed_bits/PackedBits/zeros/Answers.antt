use Rattle.vcd_write.proofs.Packed.{packed_zeros}
use Rattle.vcd_write.proofs.packed_bits.PackedBits.zeros.Goals as goal

pub returns : goal.returns
returns c = packed_zeros c.args.count c.div_ceil.result c.in_ok-words.words.items c.in_ok-words.ensures
