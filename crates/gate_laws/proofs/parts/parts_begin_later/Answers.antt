use Rattle.gate_laws.proofs.PartTimes.{parts_begin_later}
use Rattle.gate_laws.proofs.parts.parts_begin_later.Goals as goal

pub returns : goal.returns
returns c = parts_begin_later
