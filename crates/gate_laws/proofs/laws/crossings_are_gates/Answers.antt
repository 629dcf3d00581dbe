use Rattle.gate_laws.proofs.Crossings.{crossings_are_gates}
use Rattle.gate_laws.proofs.laws.crossings_are_gates.Goals as goal

pub returns : goal.returns
returns c = crossings_are_gates
