use Rattle.ww_rule.proofs.Boxes.{plane_of_outside, evolve_outside, driven_outside}
use Rattle.ww_rule.proofs.laws.stays_in_box.Goals as goal

pub returns : goal.returns
returns c = (plane_of_outside, evolve_outside, driven_outside)
