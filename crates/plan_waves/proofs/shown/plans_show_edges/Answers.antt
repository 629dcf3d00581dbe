use Rattle.plan_waves.proofs.EdgesShown.{plans_show_edges}
use Rattle.plan_waves.proofs.shown.plans_show_edges.Goals as goal

pub returns : goal.returns
returns c = plans_show_edges
