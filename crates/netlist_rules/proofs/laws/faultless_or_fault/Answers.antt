use Rattle.netlist_rules.proofs.Faultless.{faultless_or_fault}
use Rattle.netlist_rules.proofs.laws.faultless_or_fault.Goals as goal

pub returns : goal.returns
returns c = faultless_or_fault
