use Rattle.std.proofs.Common.{◌≡◌, min, ◌+◌, ◌-◌, ◌^◌, sum_by, take}
use Rattle.netlist_core.specs.OwnWeight.{own_weight}
use Rattle.design_walks.specs.Weights.{line_weight}
use Rattle.design_walks.proofs.weights.weight_at.Given as goal

abbrev pub invariant-loop-line : goal.invariant-loop-line
invariant-loop-line l = l.weight ≡ min (own_weight l.model + sum_by (line_weight l.named l.weights) (take l.line-index l.model.subckts)) (2 ^ 64 - 1)
