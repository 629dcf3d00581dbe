use Rattle.std.proofs.Common.{sym, ap, refl, ◌∙◌, length, get_or, arith}
use Rattle.std.proofs.lemmas.List.{with_items_is}
use Rattle.band_rows.proofs.FieldSteps.{same_marked, same_word}
use Rattle.band_rows.proofs.field.Field.step_back.Goals as goal

pub returns : goal.returns
returns c =
    let self = c.args.self.now in
    let is = c.requires.is in
    let e = c.step_marked.ensures in
    let old = ap length c.deref_mut.ensures.value in
    let long = e.long_tails in
    let heads = with_items_is self.heads c.step_marked.new.tails (omega (arith, long, old)) in
    record {
      is = record {
        stride = is.stride;
        long_heads = ap length heads ∙ long ∙ old ∙ is.long_tails;
        long_tails = is.long_heads;
        long_cells = is.long_cells;
        long_marks = e.long_soon ∙ is.long_spare;
        long_spare = e.long_now ∙ is.long_marks;
        cells_in_rows = is.cells_in_rows;
        listed = e.listed;
        marked = λ room. same_marked self.stride heads (sym c.deref.ensures.value) (sym c.deref-2.ensures.value) refl e.marked;
        cleared = e.cleared;
      };
      size = record { columns = refl; rows = refl; stride = refl };
      cells = refl;
      tails = refl;
      heads = λ i. ap (λ l. get_or l i 0) heads ∙ e.next i ∙ same_word self.stride i c.deref.ensures.value c.deref_mut.ensures.value c.deref-2.ensures.value;
    }
