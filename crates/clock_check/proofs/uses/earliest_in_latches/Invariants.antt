use Rattle.std.proofs.Common.{◌≡◌, flat_map, take}
use Rattle.clock_check.specs.Uses.{uses_of_latch, earliest_among}
use Rattle.clock_check.proofs.uses.earliest_in_latches.Given as goal

abbrev pub invariant-loop-latch : goal.invariant-loop-latch
invariant-loop-latch l = l.found ≡ earliest_among l.clocks l.initial.found (flat_map uses_of_latch (take l.latch-index l.latches))
