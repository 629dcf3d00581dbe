use Rattle.std.proofs.Common.{refl, ap, ◌∙◌, length, arith}
use Rattle.std.proofs.lemmas.List.{with_items_is}
use Rattle.band_rows.proofs.FieldSteps.{same_listed, same_marked}
use Rattle.band_rows.proofs.field.mark_again.Goals as goal

pub mark_words-marks-requires : goal.mark_words-marks-requires
mark_words-marks-requires c =
    let q = c.requires in
    record {
      heads = q.heads;
      bytes = ap length c.deref_mut.ensures.value ∙ q.marks;
      size = q.size;
      heads_on_cells = q.heads_on_cells;
      tails_on_cells = q.tails_on_cells;
    }

pub returns : goal.returns
returns c =
    let e = c.mark_words-marks.ensures in
    let new = c.mark_words-marks.new in
    let marks = c.args.marks.now in
    let at_bytes = ap length c.deref_mut.ensures.value in
    let at_list = ap length c.deref_mut-2.ensures.value in
    let long = e.long in
    let long_list = e.long_list in
    let bytes = with_items_is marks.bytes new.bytes (omega (arith, long, at_bytes)) in
    let list = with_items_is marks.list new.list (omega (arith, long_list, at_list)) in
    record {
      long = ap length bytes ∙ long ∙ at_bytes;
      listed = same_listed c.args.free.now.stride c.mark_words-marks.result bytes list e.listed;
      marked = same_marked c.args.free.now.stride refl refl refl bytes e.marked;
    }
