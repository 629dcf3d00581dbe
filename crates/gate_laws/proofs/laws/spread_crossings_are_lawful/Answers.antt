use Rattle.gate_laws.proofs.Crossings.{spread_crossings_are_lawful}
use Rattle.gate_laws.proofs.laws.spread_crossings_are_lawful.Goals as goal

pub returns : goal.returns
returns c = spread_crossings_are_lawful
