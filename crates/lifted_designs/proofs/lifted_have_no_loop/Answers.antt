use Rattle.lifted_designs.proofs.Rising.{lifted_have_no_loop}
use Rattle.lifted_designs.proofs.lifted_have_no_loop.Goals as goal

pub returns : goal.returns
returns c = lifted_have_no_loop
