use Rattle.std.proofs.Common.{◌≡◌, ◌+◌, drop}
use Rattle.lifted_designs.specs.Names.{leading}
use Rattle.blif_write.proofs.lifting.leading.Given as goal

abbrev pub invariant-loop-i : goal.invariant-loop-i
invariant-loop-i l = leading l.name ≡ l.i + leading (drop l.i l.name)
