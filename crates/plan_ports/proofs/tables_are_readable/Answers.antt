use Rattle.plan_ports.proofs.Readable.{tables_are_readable}
use Rattle.plan_ports.proofs.tables_are_readable.Goals as goal

pub returns : goal.returns
returns c = tables_are_readable
