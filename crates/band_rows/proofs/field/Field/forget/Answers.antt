use Rattle.std.proofs.Common.{ℕ, ◌+◌, ◌*◌, ◌<◌, ◌≡◌, refl, sym, ap, subst, ◌∙◌, length, get_or, arith}
use Rattle.std.specs.Prelude.{◌≢◌}
use Rattle.std.proofs.lemmas.List.{with_items_is}
use Rattle.lane_kernel.specs.PlaneRows.{place}
use Rattle.band_rows.specs.RowsPut.{HasRowPut}
use Rattle.band_rows.proofs.ClosedFields.{empty_margin, same_where_cells}
use Rattle.band_rows.proofs.FacedFields.{beside_low, beside_apart, inner_at}
use Rattle.band_rows.proofs.FieldSteps.{same_marked}
use Rattle.band_rows.proofs.field.Field.forget.Goals as goal

pub clear_row-requires : goal.clear_row-requires
clear_row-requires c =
    let self = c.args.self.now in
    let is = c.requires.is in
    let tails = c.deref_mut.ensures.value in
    let low = beside_low self.rows self.stride c.args.r is.stride c.requires.beside in
    let narrow = c.requires.narrow in
    let size : length self.tails.items ≡ (self.columns + 2) * self.stride + 2 = is.long_tails ∙ sym (ap (λ s. (self.columns + 2) * s + 2) is.stride) in
    record {
      low = low;
      within = λ k lt.
          let inner = inner_at self.columns self.stride k c.args.r (length self.tails.items) (omega (arith, lt, narrow)) low size in
          let to = inner.to in
          subst (λ l. place self.stride k c.args.r < length l) (sym tails) (omega (arith, to));
    }

pub returns : goal.returns
returns c =
    let self = c.args.self.now in
    let is = c.requires.is in
    let e = c.clear_row.ensures in
    let old = ap length c.deref_mut.ensures.value in
    let long = e.long in
    let tails = with_items_is self.tails c.clear_row.new.words (omega (arith, long, old)) in
    let low = beside_low self.rows self.stride c.args.r is.stride c.requires.beside in
    let kept : (i : ℕ) → get_or self.cells.items i 0 ≢ 0 → get_or c.clear_row.new.words i 0 ≡ get_or self.tails.items i 0 = λ i some.
    e.words.other i (λ k lt same. some (ap (λ i. get_or self.cells.items i 0) same ∙ empty_margin self.columns self.rows self.stride is.stride self.cells.items is.cells_in_rows k c.args.r low (beside_apart self.rows c.args.r c.requires.beside)))
    ∙ ap (λ l. get_or l i 0) c.deref_mut.ensures.value in
    record {
      is = record {
        stride = is.stride;
        long_heads = is.long_heads;
        long_tails = ap length tails ∙ long ∙ old ∙ is.long_tails;
        long_cells = is.long_cells;
        long_marks = is.long_marks;
        long_spare = is.long_spare;
        cells_in_rows = is.cells_in_rows;
        listed = is.listed;
        marked = λ room. same_marked self.stride refl tails refl refl (same_where_cells self.stride self.heads.items self.tails.items c.clear_row.new.words self.cells.items self.marks.bytes.items kept (is.marked room));
        cleared = is.cleared;
      };
      size = record { columns = refl; rows = refl; stride = refl };
      cells = refl;
      heads = refl;
      tails = subst (λ l. HasRowPut self.stride c.args.r c.args.columns (λ k. 0) self.tails.items l) (sym tails)
          (subst (λ l. HasRowPut self.stride c.args.r c.args.columns (λ k. 0) l c.clear_row.new.words) c.deref_mut.ensures.value e.words);
    }
