use Rattle.std.proofs.Common.{◌≡◌, take}
use Rattle.clock_check.specs.Uses.{uses_on, earliest_among}
use Rattle.clock_check.proofs.uses.earliest_on.Given as goal

abbrev pub invariant-loop-position : goal.invariant-loop-position
invariant-loop-position l = l.found ≡ earliest_among l.clocks l.initial.found (uses_on l.line 0 (take l.position l.nets))
