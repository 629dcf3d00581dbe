use Rattle.std.proofs.Common.{◌+◌, sym, ap, subst, ◌∙◌, length, get_or, arith}
use Rattle.std.proofs.lemmas.List.{length-set}
use Rattle.lane_kernel.specs.PlaneRows.{place}
use Rattle.band_rows.specs.Facing.{words_in}
use Rattle.band_rows.specs.RowsPut.{HasRowPut}
use Rattle.band_rows.proofs.FacedFields.{put_more, put_none}
use Rattle.band_rows.proofs.field_facing.take_row.Goals as goal

pub loop-c-init : goal.loop-c-init
loop-c-init c =
    let q = c.requires in
    record {
      long_heads = q.heads;
      marks = q.marks;
      heads = put_none c.args.free.now.stride c.args.r (λ k. get_or (words_in c.args.row.now) k 0) c.args.heads.now;
    }

pub loop-c-preserved : goal.loop-c-preserved
loop-c-preserved c =
    let q = c.requires in
    let v = c.loop-c.invariant in
    let e = c.take_word.ensures in
    let n = c.loop-c.c in
    let inner = q.inner n (omega arith) in
    let to = inner.to in
    let long = v.long_heads in
    let set = e.heads in
    let stride = c.args.free.now.stride in
    record {
      long_heads = ap length set ∙ length-set c.loop-c.heads (place stride n c.args.r) c.word.result ∙ long;
      marks = e.marks;
      heads = subst (HasRowPut stride c.args.r (n + 1) (λ k. get_or (words_in c.args.row.now) k 0) c.args.heads.now) (sym set)
          (put_more stride c.args.r n c.word.result (λ k. get_or (words_in c.args.row.now) k 0) c.args.heads.now c.loop-c.heads q.low (omega (arith, to, long)) c.word.ensures v.heads);
    }
