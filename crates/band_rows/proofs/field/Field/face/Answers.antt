use Rattle.std.proofs.Common.{◌+◌, ◌*◌, ◌≡◌, refl, sym, ap, subst, ◌∙◌, length, get_or, arith}
use Rattle.std.specs.Vec.{with_items}
use Rattle.std.proofs.lemmas.List.{with_items_is}
use Rattle.lane_kernel.specs.Around.{IsInner}
use Rattle.lane_kernel.specs.PlaneRows.{place}
use Rattle.lane_kernel.proofs.PlaneRows.{length_row}
use Rattle.band_rows.specs.Facing.{words_in}
use Rattle.band_rows.specs.RowsPut.{HasRowPut}
use Rattle.band_rows.proofs.ClosedFields.{empty_margin}
use Rattle.band_rows.proofs.FacedFields.{beside_low, beside_apart, inner_at}
use Rattle.band_rows.proofs.FieldSteps.{same_marked}
use Rattle.band_rows.proofs.field.Field.face.Goals as goal

pub take_row-requires : goal.take_row-requires
take_row-requires c =
    let self = c.args.self.now in
    let is = c.requires.is in
    let heads = c.deref_mut.ensures.value in
    let tails = c.deref.ensures.value in
    let cells = c.deref-2.ensures.value in
    let low = beside_low self.rows self.stride c.args.r is.stride c.requires.beside in
    let narrow = c.requires.narrow in
    let size : length self.cells.items ≡ (self.columns + 2) * self.stride + 2 = is.long_cells ∙ sym (ap (λ s. (self.columns + 2) * s + 2) is.stride) in
    record {
      heads = ap length heads ∙ is.long_heads ∙ sym is.long_cells ∙ sym (ap length cells);
      marks = record {
        long = is.long_marks ∙ sym is.long_cells ∙ sym (ap length cells);
        listed = is.listed;
        marked = λ room. same_marked self.stride heads tails cells refl (is.marked room);
      };
      low = low;
      inner = λ k lt. subst (λ l. IsInner self.stride (length l) (place self.stride k c.args.r)) (sym cells) (inner_at self.columns self.stride k c.args.r (length self.cells.items) (omega (arith, lt, narrow)) low size);
      empty = λ k lt. ap (λ l. get_or l (place self.stride k c.args.r) 0) cells ∙ empty_margin self.columns self.rows self.stride is.stride self.cells.items is.cells_in_rows k c.args.r low (beside_apart self.rows c.args.r c.requires.beside);
    }

pub returns : goal.returns
returns c =
    let self = c.args.self.now in
    let is = c.requires.is in
    let e = c.take_row.ensures in
    let old = ap length c.deref_mut.ensures.value in
    let long = e.long_heads in
    let heads = with_items_is self.heads c.take_row.new.heads (omega (arith, long, old)) in
    record {
      is = record {
        stride = is.stride;
        long_heads = ap length heads ∙ long ∙ old ∙ is.long_heads;
        long_tails = is.long_tails;
        long_cells = is.long_cells;
        long_marks = e.marks.long ∙ ap length c.deref-2.ensures.value ∙ is.long_cells;
        long_spare = is.long_spare;
        cells_in_rows = is.cells_in_rows;
        listed = e.marks.listed;
        marked = λ room. same_marked self.stride heads (sym c.deref.ensures.value) (sym c.deref-2.ensures.value) refl (e.marks.marked room);
        cleared = is.cleared;
      };
      size = record { columns = refl; rows = refl; stride = refl };
      cells = refl;
      tails = refl;
      heads = subst (λ n. HasRowPut self.stride c.args.r n (λ k. get_or (words_in c.args.row.now) k 0) self.heads.items (with_items self.heads c.take_row.new.heads).items) (sym (length_row c.args.row.now.columns c.args.row.now.stride c.args.row.now.plane.now c.args.row.now.r))
          (subst (λ l. HasRowPut self.stride c.args.r c.args.row.now.columns (λ k. get_or (words_in c.args.row.now) k 0) self.heads.items l) (sym heads)
          (subst (λ l. HasRowPut self.stride c.args.r c.args.row.now.columns (λ k. get_or (words_in c.args.row.now) k 0) l c.take_row.new.heads) c.deref_mut.ensures.value e.heads));
    }
