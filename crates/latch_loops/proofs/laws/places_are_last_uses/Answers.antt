use Rattle.latch_loops.proofs.Uses.{places_are_last_uses}
use Rattle.latch_loops.proofs.laws.places_are_last_uses.Goals as goal

pub returns : goal.returns
returns c = places_are_last_uses
