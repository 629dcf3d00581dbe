use Rattle.ww_rule.proofs.Moves.{next_plane_moved, evolve_moved}
use Rattle.ww_rule.proofs.laws.keeps_translations.Goals as goal

pub returns : goal.returns
returns c = (next_plane_moved, evolve_moved)
