use Rattle.std.proofs.Common.{◌≡◌, take}
use Rattle.circuit_plans.specs.Lifted.{sources_on}
use Rattle.circuit_plans.proofs.leaving.sources_on.Given as goal

abbrev pub invariant-loop-lane : goal.invariant-loop-lane
invariant-loop-lane l = l.on.items ≡ sources_on l.sources (take l.lane-index l.lanes)
