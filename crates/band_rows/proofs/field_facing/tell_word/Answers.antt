use Rattle.std.proofs.Common.{sym, ap, subst, ◌∙◌, length, get_or, arith}
use Rattle.std.proofs.lemmas.List.{with_items_is}
use Rattle.lane_kernel.specs.Around.{IsInner}
use Rattle.lane_kernel.specs.Marked.{AreTold}
use Rattle.band_rows.proofs.FieldSteps.{same_listed}
use Rattle.band_rows.proofs.field_facing.tell_word.Goals as goal

pub tell_around-marks-requires : goal.tell_around-marks-requires
tell_around-marks-requires c =
    let q = c.requires in
    let stride = c.args.free.now.stride in
    let long = ap length c.deref_mut.ensures.value ∙ q.marks in
    record {
      inner = subst (λ n. IsInner stride n c.args.i) (sym long) q.inner;
      long = sym long;
      listed = same_listed stride c.args.marks.now.many c.deref_mut.ensures.value c.deref_mut-2.ensures.value q.listed;
    }

pub returns : goal.returns
returns c =
    let a = c.args in
    let t = c.tell_around-marks.ensures in
    let old = ap length c.deref_mut.ensures.value in
    let old_list = ap length c.deref_mut-2.ensures.value in
    let long = t.long in
    let long_list = t.long_list in
    let bytes = with_items_is a.marks.now.bytes c.tell_around-marks.new.bytes (omega (arith, long, old)) in
    let list = with_items_is a.marks.now.list c.tell_around-marks.new.list (omega (arith, long_list, old_list)) in
    record {
      long = ap length bytes ∙ long ∙ old;
      listed = same_listed a.free.now.stride c.tell_around-marks.result bytes list t.listed;
      more = λ i.
          let more = t.more i in
          let was = ap (λ l. get_or l i 0) c.deref_mut.ensures.value in
          let now = ap (λ l. get_or l i 0) bytes in
          omega (arith, more, was, now);
      told = subst (AreTold a.free.now a.heads a.i) (sym bytes) t.told;
    }
