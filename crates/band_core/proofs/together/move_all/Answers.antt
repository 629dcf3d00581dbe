use Rattle.std.proofs.Common.{◌-◌, arith}
use Rattle.band_core.proofs.MovedOn.{can_still_move, moved_on_further}
use Rattle.band_core.proofs.together.move_all.Goals as goal

pub loop-left-preserved : goal.loop-left-preserved
loop-left-preserved c =
    let left = c.loop-left.left in
    let by = c.move_further-left.result in
    let further = c.move_further-left.ensures in
    let less = further.few in
    let few = c.loop-left.invariant.few in
    let bands = c.loop-left.bands in
    let new = c.move_further-left.new.bands in
    record {
      few = omega (arith, few);
      can_move = can_still_move left by c.args.columns c.args.height c.args.rows bands new less c.loop-left.invariant.can_move further.moved;
      moved = moved_on_further c.args.columns c.args.height c.args.rows (c.args.n - left) by (c.args.n - (left - by)) c.args.bands.now bands new (omega (arith, few, less)) c.loop-left.invariant.moved further.moved;
    }
