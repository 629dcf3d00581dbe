use Rattle.std.proofs.Common.{length, ap, sym, ◌∙◌}
use Rattle.vcd_write.proofs.Packed.{packed_long}
use Rattle.vcd_write.proofs.packed_bits.PackedBits.len.Goals as goal

pub returns : goal.returns
returns c = sym (packed_long c.self.inside.count c.self.inside.words.items) ∙ ap length c.self.view_is
