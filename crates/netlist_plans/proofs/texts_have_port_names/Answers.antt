use Rattle.netlist_plans.proofs.Names.{texts_have_port_names}
use Rattle.netlist_plans.proofs.texts_have_port_names.Goals as goal

pub returns : goal.returns
returns c = texts_have_port_names
