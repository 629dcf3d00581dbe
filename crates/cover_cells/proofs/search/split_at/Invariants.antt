use Rattle.std.proofs.Common.{◌<◌}
use Rattle.cover_cells.proofs.search.split_at.Given as goal

abbrev pub invariant-loop-net : goal.invariant-loop-net
invariant-loop-net l = l.best < 6
