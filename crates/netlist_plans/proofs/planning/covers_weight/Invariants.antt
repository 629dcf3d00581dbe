use Rattle.std.proofs.Common.{◌≡◌, min, ◌-◌, ◌^◌, sum_by, take}
use Rattle.netlist_core.specs.declared.flat.Node.{Node}
use Rattle.netlist_core.specs.OwnWeight.{rows_weight}
use Rattle.netlist_plans.proofs.planning.covers_weight.Given as goal

abbrev pub invariant-loop-node : goal.invariant-loop-node
invariant-loop-node l = l.weight ≡ min (sum_by (λ (node : Node). rows_weight node.rows) (take l.node-index l.flat.nodes)) (2 ^ 64 - 1)
