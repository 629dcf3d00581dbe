use Rattle.std.proofs.Common.{◌<◌, ◌/◌, List, ℕ, length, ap, sym, subst, ◌∙◌, get_or, false, arith}
use Rattle.lane_kernel.specs.Rows.{is_set}
use Rattle.vcd_write.proofs.Packed.{packed_at, packed_long}
use Rattle.vcd_write.proofs.packed_bits.PackedBits.get.Goals as goal

pub is_set-requires : goal.is_set-requires
is_set-requires c =
    let bits = c.self.inside in
    let long = ap length (sym c.self.view_is) ∙ packed_long bits.count bits.words.items in
    let low : c.args.place < bits.count = omega (arith, long, c.requires) in
    let within : c.args.place / 64 < length bits.words.items = omega (arith, low, c.self.invariant) in
    subst (λ (words : List ℕ). c.args.place / 64 < length words) (sym c.deref.ensures.value) within

pub returns : goal.returns
returns c =
    let bits = c.self.inside in
    let long = ap length (sym c.self.view_is) ∙ packed_long bits.count bits.words.items in
    let low : c.args.place < bits.count = omega (arith, long, c.requires) in
    c.is_set.ensures ∙ ap (λ words. is_set words c.args.place) c.deref.ensures.value ∙ sym (packed_at bits.count bits.words.items c.args.place low) ∙ ap (λ bits. get_or bits c.args.place false) c.self.view_is
