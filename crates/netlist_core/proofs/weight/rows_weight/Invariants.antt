use Rattle.std.proofs.Common.{◌≡◌, min, ◌+◌, ◌-◌, ◌^◌, length, sum_by, take}
use Rattle.netlist_core.specs.OwnWeight.{literals}
use Rattle.netlist_core.proofs.weight.rows_weight.Given as goal

abbrev pub invariant-loop-row : goal.invariant-loop-row
invariant-loop-row l = l.weight ≡ min (1 + length l.rows + sum_by literals (take l.row-index l.rows)) (2 ^ 64 - 1)
