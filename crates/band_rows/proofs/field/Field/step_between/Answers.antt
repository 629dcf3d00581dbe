use Rattle.std.proofs.Common.{◌+ℤ◌, ◌+◌, pos, sym, subst, arith}
use Rattle.band_rows.specs.Facing.{words_in}
use Rattle.lane_kernel.specs.PlaneRows.{ShowsHeads}
use Rattle.band_rows.proofs.FacedFields.{settled_shows}
use Rattle.band_rows.proofs.GoneOn.{same_size}
use Rattle.band_rows.proofs.Same.{same_items}
use Rattle.band_rows.proofs.field.Field.step_between.Goals as goal

pub step_faced-requires : goal.step_faced-requires
step_faced-requires c =
    let columns = c.settle.ensures.size.columns in
    let above = c.requires.above in
    let below = c.requires.below in
    record { closed = c.settle.ensures.closed; above = omega (arith, columns, above); below = omega (arith, columns, below) }

pub returns : goal.returns
returns c =
    let old = c.args.self.now in
    let mid = c.settle.new.self in
    let s = c.settle.ensures in
    let e = c.step_faced.ensures in
    let same = settled_shows old mid s.size (same_items s.heads) (same_items s.tails) (same_items s.cells) in
    record {
      closed = e.closed;
      size = same_size s.size e.size;
      tails = λ p y shown. e.tails p y (same p y shown);
      shows = λ p y bare up shown down. e.shows p y bare up (same p y shown) (subst (λ n. ShowsHeads (words_in c.args.facing.now.below) p (y +ℤ pos n)) (sym s.size.rows) down);
    }
