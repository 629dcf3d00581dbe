use Rattle.band_core.proofs.MovedOn.{dark_moved_on, has_room}
use Rattle.band_core.proofs.together.move_further.Goals as goal

pub are_dark-requires : goal.are_dark-requires
are_dark-requires c b d lt = (c.requires.can_move.are.each b d lt).closed

pub rest_all-requires : goal.rest_all-requires
rest_all-requires c = has_room c.args.most c.calm_generations-calm.result c.args.columns c.args.height c.args.rows c.args.bands.now c.calm_generations-calm.ensures.few c.requires.can_move

pub returns-then-calm-gt0-clause-moved : goal.returns-then-calm-gt0-clause-moved
returns-then-calm-gt0-clause-moved c =
    dark_moved_on c.calm_generations-calm.result c.args.most c.args.columns c.args.height c.args.rows c.args.bands.now c.rest_all.new.bands c.if-calm-gt0.true c.requires.can_move (c.are_dark.ensures c.if-are_dark.true)
    c.calm_generations-calm.ensures.calm c.rest_all.ensures
