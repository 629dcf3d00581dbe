use Rattle.gate_laws.proofs.Together.{wires_feed}
use Rattle.gate_laws.proofs.laws.wires_feed.Goals as goal

pub returns : goal.returns
returns c = wires_feed
