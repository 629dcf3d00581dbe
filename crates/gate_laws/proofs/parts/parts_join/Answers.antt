use Rattle.gate_laws.proofs.PartJoins.{parts_join}
use Rattle.gate_laws.proofs.parts.parts_join.Goals as goal

pub returns : goal.returns
returns c = parts_join
