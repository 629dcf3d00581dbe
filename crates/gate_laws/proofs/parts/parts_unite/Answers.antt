use Rattle.gate_laws.proofs.Beside.{parts_unite}
use Rattle.gate_laws.proofs.parts.parts_unite.Goals as goal

pub returns : goal.returns
returns c = parts_unite
