use Rattle.ww_rule.proofs.DrivenPlanes.{is_causal}
use Rattle.ww_rule.proofs.laws.is_causal.Goals as goal

pub returns : goal.returns
returns c = is_causal
