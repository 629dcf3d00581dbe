use Rattle.ww_rule.proofs.Finite.{plane_of_finite, evolve_finite, driven_finite}
use Rattle.ww_rule.proofs.laws.stays_finite.Goals as goal

pub returns : goal.returns
returns c = (plane_of_finite, evolve_finite, driven_finite)
