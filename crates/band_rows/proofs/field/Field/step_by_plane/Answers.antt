use Rattle.std.proofs.Common.{ap, refl, ◌∙◌, length, get_or, arith}
use Rattle.std.proofs.lemmas.List.{with_items_is}
use Rattle.band_rows.proofs.FieldSteps.{same_word}
use Rattle.band_rows.proofs.Same.{same_items}
use Rattle.band_rows.proofs.field.Field.step_by_plane.Goals as goal

pub returns : goal.returns
returns c =
    let self = c.args.self.now in
    let is = c.requires.is in
    let e = c.step_plane.ensures in
    let old = ap length c.deref_mut.ensures.value in
    let long = e.long in
    let heads = same_items c.swap.ensures.x_after ∙ with_items_is self.tails c.step_plane.new.tails (omega (arith, long, old)) in
    let tails = same_items c.swap.ensures.y_after in
    record {
      is = record {
        stride = is.stride;
        long_heads = ap length heads ∙ long ∙ old ∙ is.long_tails;
        long_tails = ap length tails ∙ is.long_heads;
        long_cells = is.long_cells;
        long_marks = is.long_marks;
        long_spare = is.long_spare;
        cells_in_rows = is.cells_in_rows;
        listed = is.listed;
        marked = λ room. let full = c.requires.full in absurd (omega (arith, room, full));
        cleared = is.cleared;
      };
      size = record { columns = refl; rows = refl; stride = refl };
      cells = refl;
      tails = tails;
      heads = λ i. ap (λ l. get_or l i 0) heads ∙ e.next i ∙ same_word self.stride i c.deref.ensures.value c.deref_mut.ensures.value c.deref-2.ensures.value;
    }
