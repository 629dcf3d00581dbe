use Rattle.gate_laws.proofs.Gates.{lawful_are_gates}
use Rattle.gate_laws.proofs.laws.lawful_are_gates.Goals as goal

pub returns : goal.returns
returns c = lawful_are_gates
