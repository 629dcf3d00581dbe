use Rattle.made_summary.proofs.Read.{written_plans_read}
use Rattle.made_summary.proofs.laws.written_plans_read.Goals as goal

pub returns : goal.returns
returns c = written_plans_read
