use Rattle.std.proofs.Common.{◌≡◌}
use Rattle.circuit_plans.specs.Lifted.{sources_leaving}
use Rattle.circuit_plans.proofs.leaving.sources_leaving.Given as goal

abbrev pub invariant-loop-number : goal.invariant-loop-number
invariant-loop-number l = l.on.items ≡ sources_leaving l.sources l.lanes l.number
