use Rattle.blifww_tool.proofs.Statuses.{statuses_have_causes}
use Rattle.blifww_tool.proofs.laws.statuses_have_causes.Goals as goal

pub returns : goal.returns
returns c = statuses_have_causes
