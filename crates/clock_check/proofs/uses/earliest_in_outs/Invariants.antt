use Rattle.std.proofs.Common.{◌≡◌, take}
use Rattle.clock_check.specs.Uses.{uses_of_outs, earliest_among}
use Rattle.clock_check.proofs.uses.earliest_in_outs.Given as goal

abbrev pub invariant-loop-position : goal.invariant-loop-position
invariant-loop-position l = l.found ≡ earliest_among l.clocks l.initial.found (uses_of_outs 0 (take l.position l.outs))
