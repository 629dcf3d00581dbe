use Rattle.tiling.proofs.Shown.{shows_edges}
use Rattle.tiling.proofs.shows_edges.Goals as goal

pub returns : goal.returns
returns c = shows_edges
