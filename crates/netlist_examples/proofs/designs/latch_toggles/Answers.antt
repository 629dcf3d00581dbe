use Rattle.netlist_examples.proofs.Toggle.{latch_toggles}
use Rattle.netlist_examples.proofs.designs.latch_toggles.Goals as goal

pub returns : goal.returns
returns c = latch_toggles
