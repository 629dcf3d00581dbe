use Rattle.std.proofs.Common.{◌≡◌, map}
use Rattle.std.specs.List.{range_with_len}
use Rattle.circuit_plans.specs.Circuits.{starts_with_one}
use Rattle.circuit_plans.proofs.loops.first_bits.Given as goal

abbrev pub invariant-loop-number : goal.invariant-loop-number
invariant-loop-number l = l.bits.items ≡ map (starts_with_one l.plan.starts.list l.plan.lanes l.plan.latches) (range_with_len 0 l.number)
