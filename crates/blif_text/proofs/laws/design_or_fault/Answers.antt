use Rattle.blif_text.proofs.OneFault.{design_or_fault}
use Rattle.blif_text.proofs.laws.design_or_fault.Goals as goal

pub returns : goal.returns
returns c = design_or_fault
