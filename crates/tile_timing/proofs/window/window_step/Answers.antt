use Rattle.std.proofs.Common.{◌<◌, ◌≢◌, length, arith, get_or-set_other, get_or-set_same, below_more}
use Rattle.tile_timing.proofs.Windows.{shown_next}
use Rattle.tile_timing.proofs.window.window_step.Goals as goal

pub loop-i-preserved : goal.loop-i-preserved
loop-i-preserved c =
    below_more _ _
    (λ k h. let ne : k ≢ c.loop-i.i = omega arith in rw get_or-set_other (c.loop-i.invariant k h))
    (let lt : c.loop-i.i < length c.loop-i.new = omega arith in rw get_or-set_same c.next_at.ensures)

pub returns-clause-next : goal.returns-clause-next
returns-clause-next c =
    shown_next c.args.old.now c.loop-i.new c.args.width (omega arith) (λ k h. c.loop-i.invariant k (omega arith))
