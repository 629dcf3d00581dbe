use Rattle.ww_rule.proofs.Locality.{next_plane_near, evolve_near}
use Rattle.ww_rule.proofs.laws.is_local.Goals as goal

pub returns : goal.returns
returns c = (next_plane_near, evolve_near)
