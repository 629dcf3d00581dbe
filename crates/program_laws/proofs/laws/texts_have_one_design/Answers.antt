use Rattle.blif_text.proofs.OneFault.{one_design}
use Rattle.program_laws.proofs.laws.texts_have_one_design.Goals as goal

pub returns : goal.returns
returns c = one_design
