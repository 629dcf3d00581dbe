use Rattle.std.proofs.Common.{◌≡◌, min, ◌+◌, ◌-◌, ◌*◌, ◌^◌, length, sum_by, take}
use Rattle.netlist_core.specs.OwnWeight.{port_weight, cover_weight}
use Rattle.netlist_core.proofs.weight.weight_of.Given as goal

abbrev pub invariant-loop-cover : goal.invariant-loop-cover
invariant-loop-cover l =
    l.weight ≡ min (port_weight l.model + 2 * length l.model.latches + length l.model.subckts + sum_by cover_weight (take l.cover-index l.model.covers)) (2 ^ 64 - 1)
