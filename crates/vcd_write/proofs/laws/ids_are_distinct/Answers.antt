use Rattle.vcd_write.proofs.Ids.{ids_are_distinct}
use Rattle.vcd_write.proofs.laws.ids_are_distinct.Goals as goal

pub returns : goal.returns
returns c = ids_are_distinct
