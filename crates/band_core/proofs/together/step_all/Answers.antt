use Rattle.std.proofs.Common.{arith}
use Rattle.band_core.proofs.MovedOn.{all_first_moved_on, next_can_move, one_moved_on}
use Rattle.band_core.proofs.together.step_all.Goals as goal

pub move_one-requires-clause-can_move : goal.move_one-requires-clause-can_move
move_one-requires-clause-can_move c = next_can_move c.args.columns c.args.height c.args.rows c.loop-b.b c.args.bands.now c.loop-b.bands c.requires c.loop-b.invariant (omega arith)

pub loop-b-preserved : goal.loop-b-preserved
loop-b-preserved c =
    let next = c.move_one.ensures in
    one_moved_on c.args.columns c.args.height c.args.rows c.loop-b.b c.args.bands.now c.loop-b.bands c.move_one.new.bands c.loop-b.invariant c.requires.are (omega arith) next.bands next.generations next.shows

pub returns : goal.returns
returns c = all_first_moved_on c.args.columns c.args.height c.args.rows c.loop-b.b c.args.bands.now c.loop-b.bands c.requires.are (omega arith) c.loop-b.invariant
