use Rattle.netlist_rules.proofs.FirstModelFaults.{model_fault_is_first}
use Rattle.netlist_rules.proofs.laws.model_fault_is_first.Goals as goal

pub returns : goal.returns
returns c = model_fault_is_first
