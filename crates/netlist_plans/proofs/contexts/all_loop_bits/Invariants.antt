use Rattle.std.proofs.Common.{◌≡◌, map, take}
use Rattle.netlist_plans.specs.Contexts.{loop_starting_bits}
use Rattle.netlist_plans.proofs.contexts.all_loop_bits.Given as goal

abbrev pub invariant-loop-latches : goal.invariant-loop-latches
invariant-loop-latches l = l.all.items ≡ map (loop_starting_bits l.plan) (take l.latches-index l.starts)
