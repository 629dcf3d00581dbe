use Rattle.gate_laws.proofs.Unite.{planes_unite}
use Rattle.gate_laws.proofs.laws.planes_unite.Goals as goal

pub returns : goal.returns
returns c = planes_unite
