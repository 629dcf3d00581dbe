use Rattle.cover_cells.proofs.search.+build.Given as goal

abbrev pub decreases-build : goal.decreases-build
decreases-build l = l.depth
