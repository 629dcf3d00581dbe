use Rattle.gate_laws.proofs.Crossings.{crossings_copy}
use Rattle.gate_laws.proofs.laws.crossings_copy.Goals as goal

pub returns : goal.returns
returns c = crossings_copy
