use Rattle.std.proofs.Common.{◌≡◌, max, drop}
use Rattle.lifted_designs.specs.Names.{most_leading}
use Rattle.blif_write.proofs.lifting.most_leading.Given as goal

abbrev pub invariant-loop-name : goal.invariant-loop-name
invariant-loop-name l = max l.most (most_leading (drop l.name-index l.names)) ≡ max l.least (most_leading l.names)
