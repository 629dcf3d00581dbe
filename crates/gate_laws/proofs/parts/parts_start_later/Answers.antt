use Rattle.gate_laws.proofs.Later.{parts_start_later}
use Rattle.gate_laws.proofs.parts.parts_start_later.Goals as goal

pub returns : goal.returns
returns c = parts_start_later
