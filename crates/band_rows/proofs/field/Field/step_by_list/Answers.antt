use Rattle.std.proofs.Common.{sym, ap, refl, subst, ◌∙◌, length, get_or, arith}
use Rattle.std.proofs.lemmas.List.{with_items_is}
use Rattle.lane_kernel.specs.Marked.{AreCleared, AreListed}
use Rattle.band_rows.specs.declared.field.WordMarks.{WordMarks}
use Rattle.band_rows.proofs.FieldSteps.{same_marked, same_word}
use Rattle.band_rows.proofs.Same.{same_items}
use Rattle.band_rows.proofs.field.Field.step_by_list.Goals as goal

pub returns : goal.returns
returns c =
    let self = c.args.self.now in
    let is = c.requires.is in
    let e = c.step_marked.ensures in
    let old = ap length c.deref_mut.ensures.value in
    let long = e.long_tails in
    let marks = c.swap.ensures.x_after in
    let spare = c.swap.ensures.y_after in
    let heads = same_items c.swap-2.ensures.x_after ∙ with_items_is self.tails c.step_marked.new.tails (omega (arith, long, old)) in
    let tails = same_items c.swap-2.ensures.y_after in
    record {
      is = record {
        stride = is.stride;
        long_heads = ap length heads ∙ long ∙ old ∙ is.long_tails;
        long_tails = ap length tails ∙ is.long_heads;
        long_cells = is.long_cells;
        long_marks = ap (λ (m : WordMarks). length m.bytes.items) marks ∙ e.long_soon ∙ is.long_spare;
        long_spare = ap (λ (m : WordMarks). length m.bytes.items) spare ∙ e.long_now ∙ is.long_marks;
        cells_in_rows = is.cells_in_rows;
        listed = subst (λ (m : WordMarks). AreListed self.stride m.bytes.items m.list.items m.many) (sym marks) e.listed;
        marked = λ room. same_marked self.stride heads (tails ∙ sym c.deref.ensures.value) (sym c.deref-2.ensures.value) (ap (λ (m : WordMarks). m.bytes.items) marks) e.marked;
        cleared = subst (λ (m : WordMarks). AreCleared m.bytes.items) (sym spare) e.cleared;
      };
      size = record { columns = refl; rows = refl; stride = refl };
      cells = refl;
      tails = tails;
      heads = λ i. ap (λ l. get_or l i 0) heads ∙ e.next i ∙ same_word self.stride i c.deref.ensures.value c.deref_mut.ensures.value c.deref-2.ensures.value;
    }
