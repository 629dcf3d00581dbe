use Rattle.plan_waves.proofs.Beginning.{body_begins_dark}
use Rattle.plan_waves.proofs.waves.body_begins_dark.Goals as goal

pub returns : goal.returns
returns c = body_begins_dark
