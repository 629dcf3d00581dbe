use Rattle.std.proofs.Common.{refl, sym, ap, ◌∙◌, length, arith}
use Rattle.band_rows.proofs.FieldSteps.{framed_in, same_marked, same_on, two_columns}
use Rattle.band_rows.proofs.field.Field.mark_first.Goals as goal

pub invariant_of-free : goal.invariant_of-free
invariant_of-free c =
    let is = c.requires.closed.is in
    record {
      long = ap length c.deref.ensures.value ∙ is.long_tails ∙ sym (ap length c.deref-2.ensures.value ∙ is.long_cells);
      framed = framed_in c.args.self.now is c.deref-2.ensures.value;
    }

pub mark_again-requires : goal.mark_again-requires
mark_again-requires c =
    let q = c.requires.closed in
    let is = q.is in
    let long = sym (ap length c.deref-2.ensures.value ∙ is.long_cells) in
    let same = ap length c.deref-2.ensures.value in
    let two = two_columns c.args.self.now is in
    record {
      heads = ap length c.deref-3.ensures.value ∙ is.long_heads ∙ long;
      marks = is.long_marks ∙ long;
      size = omega (arith, two, same);
      heads_on_cells = same_on c.deref-2.ensures.value c.deref-3.ensures.value q.heads;
      tails_on_cells = same_on c.deref-2.ensures.value c.deref.ensures.value q.tails;
    }

pub returns : goal.returns
returns c =
    let q = c.requires.closed in
    let is = q.is in
    let e = c.mark_again.ensures in
    record {
      closed = record {
        is = record {
          stride = is.stride;
          long_heads = is.long_heads;
          long_tails = is.long_tails;
          long_cells = is.long_cells;
          long_marks = e.long ∙ is.long_marks;
          long_spare = is.long_spare;
          cells_in_rows = is.cells_in_rows;
          listed = e.listed;
          marked = λ room. same_marked c.args.self.now.stride (sym c.deref-3.ensures.value) (sym c.deref.ensures.value) (sym c.deref-2.ensures.value) refl e.marked;
          cleared = is.cleared;
        };
        heads = q.heads;
        tails = q.tails;
      };
      size = record { columns = refl; rows = refl; stride = refl };
      heads = refl;
      tails = refl;
      cells = refl;
    }
