use Rattle.std.proofs.Common.{refl, arith}
use Rattle.band_rows.proofs.FacedFields.{put_more, put_none}
use Rattle.band_rows.proofs.field_facing.clear_row.Goals as goal

pub loop-c-init : goal.loop-c-init
loop-c-init c = record { put = put_none c.args.stride c.args.r (λ k. 0) c.args.words.now }

pub loop-c-preserved : goal.loop-c-preserved
loop-c-preserved c =
    let n = c.loop-c.c in
    let lt = c.requires.within n (omega arith) in
    let long = c.loop-c.auto.words in
    record { put = put_more c.args.stride c.args.r n 0 (λ k. 0) c.args.words.now c.loop-c.words c.requires.low (omega (arith, lt, long)) refl c.loop-c.invariant.put }
