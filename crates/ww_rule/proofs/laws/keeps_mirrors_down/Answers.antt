use Rattle.ww_rule.proofs.Moves.{next_plane_upside_down, evolve_upside_down}
use Rattle.ww_rule.proofs.laws.keeps_mirrors_down.Goals as goal

pub returns : goal.returns
returns c = (next_plane_upside_down, evolve_upside_down)
