use Rattle.std.proofs.Common.{arith}
use Rattle.band_core.proofs.Alone.{ran_moved_on}
use Rattle.band_core.proofs.MovedOn.{can_move_by, has_room}
use Rattle.band_core.proofs.together.run_alone.Goals as goal

pub step_all-requires : goal.step_all-requires
step_all-requires c =
    let some = c.requires.some in
    can_move_by c.args.most 1 c.args.columns c.args.height c.args.rows c.args.bands.now (omega (arith, some)) c.requires.can_move

pub run-requires-clause-closed : goal.run-requires-clause-closed
run-requires-clause-closed c =
    let one = c.requires.one in
    (c.requires.can_move.are.each 0 c.index-bands-0.result (omega (arith, one))).closed

pub run-requires-clause-room : goal.run-requires-clause-room
run-requires-clause-room c =
    let one = c.requires.one in
    has_room c.args.most c.calm_generations-calm.result c.args.columns c.args.height c.args.rows c.args.bands.now c.calm_generations-calm.ensures.few c.requires.can_move 0 c.index-bands-0.result (omega (arith, one))

pub returns-clause-moved : goal.returns-clause-moved
returns-clause-moved c =
    let calm = c.calm_generations-calm.result in
    ran_moved_on c.run.result calm c.args.columns c.args.height c.args.rows c.args.bands.now c.index-bands-0.result c.run.new.self c.requires.one c.run.ensures.some c.run.ensures.few
    (can_move_by c.args.most calm c.args.columns c.args.height c.args.rows c.args.bands.now c.calm_generations-calm.ensures.few c.requires.can_move) c.calm_generations-calm.ensures.calm c.run.ensures.run
