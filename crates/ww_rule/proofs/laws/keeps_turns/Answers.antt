use Rattle.ww_rule.proofs.Turns.{next_plane_turned, evolve_turned}
use Rattle.ww_rule.proofs.laws.keeps_turns.Goals as goal

pub returns : goal.returns
returns c = (next_plane_turned, evolve_turned)
