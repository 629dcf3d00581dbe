use Rattle.plan_waves.proofs.Columns.{columns_pass}
use Rattle.plan_waves.proofs.waves.columns_pass.Goals as goal

pub returns : goal.returns
returns c = columns_pass
