use Rattle.netlist_examples.proofs.Adder.{adder_adds}
use Rattle.netlist_examples.proofs.designs.adder_adds.Goals as goal

pub returns : goal.returns
returns c = adder_adds
