use Rattle.gate_laws.proofs.PartWires.{parts_feed}
use Rattle.gate_laws.proofs.parts.parts_feed.Goals as goal

pub returns : goal.returns
returns c = parts_feed
