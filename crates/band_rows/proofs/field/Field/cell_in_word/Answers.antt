use Rattle.std.proofs.Common.{sym, ap, ap₂, ◌∙◌, refl, arith}
use Rattle.std.specs.Int.RustNames.{bit_or}
use Rattle.std.proofs.lemmas.List.{get_or_default}
use Rattle.lists.specs.Bits.{has_bit}
use Rattle.band_rows.proofs.LitFields.{column_at, column_west, lit_at, row_at, some_place}
use Rattle.band_rows.proofs.field.Field.cell_in_word.Goals as goal

pub overflow_sub-k-2 : goal.overflow_sub-k-2
overflow_sub-k-2 c = let r = row_at c.args.self.now c.requires.closed c.args.i c.requires.lit in omega (arith, r)

pub overflow_mul-result : goal.overflow_mul-result
overflow_mul-result c =
    let column = column_at c.args.self.now c.requires.closed c.args.i c.requires.lit in
    let west = column_west c.args.self.now c.requires.closed c.args.i c.requires.lit in
    let few = c.requires.few in
    omega (arith, column, west, few)

pub overflow_add-result : goal.overflow_add-result
overflow_add-result c =
    let column = column_at c.args.self.now c.requires.closed c.args.i c.requires.lit in
    let west = column_west c.args.self.now c.requires.closed c.args.i c.requires.lit in
    let few = c.requires.few in
    let small = c.set_place-b.ensures.small in
    omega (arith, column, west, few, small)

pub returns : goal.returns
returns c =
    let self = c.args.self.now in
    let closed = c.requires.closed in
    let i = c.args.i in
    let at = (some_place self closed i c.requires.lit).2 in
    let long = closed.is.long_heads in
    let long_tails = closed.is.long_tails in
    let h = c.index.ensures ∙ get_or_default self.heads.items i c.index.result.now 0 at in
    let t = c.index-2.ensures ∙ get_or_default self.tails.items i c.index-2.result.now 0 (omega (arith, at, long, long_tails)) in
    let b = c.set_place-b.ensures in
    lit_at self closed i c.requires.lit c.set_place-b.result _ _ b.small
    (ap (λ w. has_bit w c.set_place-b.result) (sym (ap₂ bit_or h t)) ∙ b.set) refl refl
