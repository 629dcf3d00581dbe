use Rattle.std.proofs.Common.{◌<◌, ◌≢◌, length, map, arith, get_or-set_other, get_or-set_same, below_more}
use Rattle.tile_core.specs.Interface.{cell_at, chosen}
use Rattle.tile_timing.specs.Law.{drawing_of, marked}
use Rattle.tile_timing.proofs.Windows.{shown_is, marked_empty}
use Rattle.tile_timing.proofs.law.draw_marked.Goals as goal

pub loop-i-preserved : goal.loop-i-preserved
loop-i-preserved c =
    below_more _ _
    (λ k h. let ne : k ≢ c.loop-i.i = omega arith in rw get_or-set_other (c.loop-i.invariant k h))
    (let lt : c.loop-i.i < length c.loop-i.cells = omega arith in rw get_or-set_same c.marked_at.ensures)

pub returns-clause-shows : goal.returns-clause-shows
returns-clause-shows c =
    let lit = chosen (map cell_at c.args.ports.now) c.args.bits in
    shown_is (marked (drawing_of c.args.base.now) lit c.args.mark) c.args.base.now c.loop-i.cells 32 (omega arith) (λ x y e. marked_empty c.args.base.now lit c.args.mark x y e) (λ k h. c.loop-i.invariant k (omega arith))
