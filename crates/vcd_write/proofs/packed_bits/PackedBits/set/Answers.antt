use Rattle.std.proofs.Common.{◌<◌, length, arith, ap, sym, ◌∙◌, get_or, false, ◌||◌, ◌==◌}
use Rattle.vcd_write.proofs.Packed.{packed_long, packed_set}
use Rattle.vcd_write.proofs.packed_bits.PackedBits.set.Goals as goal

pub set_bit-requires : goal.set_bit-requires
set_bit-requires c =
    let bits = c.self.inside in
    let long = ap length (sym c.self.view_is) ∙ packed_long bits.count bits.words.items in
    let low : c.args.place < bits.count = omega (arith, long, c.requires) in
    omega (arith, low, c.self.invariant)

pub returns-clause-bits : goal.returns-clause-bits
returns-clause-bits c k =
    let bits = c.self.inside in
    let low : c.args.place < bits.count = (let long = ap length (sym c.self.view_is) ∙ packed_long bits.count bits.words.items in omega (arith, long, c.requires)) in
    packed_set bits.count bits.words.items c.set_bit.new.words.items c.args.place low c.set_bit.ensures.bits k ∙ ap (λ old. k == c.args.place || get_or old k false) c.self.view_is
