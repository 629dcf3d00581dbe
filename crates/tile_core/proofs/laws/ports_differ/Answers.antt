use Rattle.tile_core.proofs.Sides.{ports_differ}
use Rattle.tile_core.proofs.laws.ports_differ.Goals as goal

pub returns : goal.returns
returns c = ports_differ
