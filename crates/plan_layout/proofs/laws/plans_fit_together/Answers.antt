use Rattle.plan_layout.proofs.Matched.{tiling_is_matched}
use Rattle.plan_layout.proofs.laws.plans_fit_together.Goals as goal

pub returns : goal.returns
returns c = tiling_is_matched
