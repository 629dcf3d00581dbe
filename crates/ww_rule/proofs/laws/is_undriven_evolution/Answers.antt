use Rattle.ww_rule.proofs.Generations.{undriven_evolves}
use Rattle.ww_rule.proofs.laws.is_undriven_evolution.Goals as goal

pub returns : goal.returns
returns c = undriven_evolves
