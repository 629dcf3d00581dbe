use Rattle.netlist_examples.proofs.Toggle.{latch_breaks_loop}
use Rattle.netlist_examples.proofs.designs.latch_breaks_loop.Goals as goal

pub returns : goal.returns
returns c = latch_breaks_loop
