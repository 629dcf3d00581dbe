use Rattle.netlist_examples.proofs.OneCover.{one_cover_computes}
use Rattle.netlist_examples.proofs.designs.one_cover_computes_its_value.Goals as goal

pub returns : goal.returns
returns c = one_cover_computes
