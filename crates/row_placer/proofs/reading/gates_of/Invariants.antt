use Rattle.std.proofs.Common.{◌≡◌, ◌-◌, length, map, take}
use Rattle.row_placer.specs.Numbers.{gate_of}
use Rattle.row_placer.proofs.reading.gates_of.Given as goal

abbrev pub invariant-loop-at : goal.invariant-loop-at
invariant-loop-at l = l.gates.items ≡ map (gate_of l.fn.list) (take l.at l.fn.list.cells)

abbrev pub decreases-loop-at : goal.decreases-loop-at
decreases-loop-at l = length l.fn.list.cells - l.at
