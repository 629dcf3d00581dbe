use Rattle.std.proofs.Common.{subst, IfOk}
use Rattle.netlist_text.specs.NetlistText.{IsNetlist}
use Rattle.netlist_tests.proofs.stages.expect_stages.Goals as goal

pub expect_netlist-requires-clause-of_text : goal.expect_netlist-requires-clause-of_text
expect_netlist-requires-clause-of_text c = (c.args.text.now, subst (λ r. IfOk r (λ n. IsNetlist c.args.text.now n.design)) c.in-Ok.is c.netlist_of.ensures.netlist)
