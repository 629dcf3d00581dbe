use Rattle.std.proofs.Common.{◌+◌, ◌*◌, ap, sym, ◌∙◌, length, arith}
use Rattle.band_rows.proofs.FieldSteps.{inner_place}
use Rattle.band_rows.proofs.field.Field.heads_in_row.Goals as goal

pub invariant_of-result : goal.invariant_of-result
invariant_of-result c =
    let self = c.args.self.now in
    let is = c.requires.is in
    let size = is.long_heads ∙ sym (ap (λ s. (self.columns + 2) * s + 2) is.stride) in
    let l = ap length c.deref.ensures.value in
    record {
      within = λ k lt.
          let inner = inner_place self.columns self.rows self.stride k c.args.k (length self.heads.items) is.stride lt c.requires.row size in
          let to = inner.to in
          omega (arith, to, l);
    }
