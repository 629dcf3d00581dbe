use Rattle.ww_rule.proofs.Moves.{next_plane_mirrored, evolve_mirrored}
use Rattle.ww_rule.proofs.laws.keeps_mirrors.Goals as goal

pub returns : goal.returns
returns c = (next_plane_mirrored, evolve_mirrored)
