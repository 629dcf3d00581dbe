use Rattle.std.proofs.Common.{◌<◌, ◌≤◌, sym, ap, ◌∙◌, length, take, get_or, arith}
use Rattle.std.proofs.lemmas.List.{get_or-take, length-take-le}
use Rattle.band_rows.proofs.field.Field.lit_word.Goals as goal

pub lit_listed-requires : goal.lit_listed-requires
lit_listed-requires c =
    let self = c.args.self.now in
    let is = c.requires.closed.is in
    let list = c.deref-then-self-len-2.result.now in
    let value = c.deref-then-self-len-2.ensures.value in
    let heads = ap length c.deref.ensures.value ∙ is.long_heads in
    let within = is.listed.within in
    let items = ap length value in
    let few : self.marks.many ≤ length list = omega (arith, within, items) in
    let many = length-take-le self.marks.many list few in
    record {
      tails = ap length c.deref-then-self-len.ensures.value ∙ is.long_tails ∙ sym heads;
      inside = λ k lt.
          let low : k < self.marks.many = omega (arith, lt, many) in
          let to = (is.listed.inner k low).to in
          let long = is.long_marks in
          let same = get_or-take self.marks.many list k 0 low ∙ ap (λ l. get_or l k 0) value in
          omega (arith, to, long, heads, same);
    }

pub lit_anywhere-requires : goal.lit_anywhere-requires
lit_anywhere-requires c =
    let is = c.requires.closed.is in
    record { tails = ap length c.deref-3.ensures.value ∙ is.long_tails ∙ sym (ap length c.deref-2.ensures.value ∙ is.long_heads) }
