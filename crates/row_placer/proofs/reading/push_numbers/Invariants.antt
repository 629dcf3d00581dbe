use Rattle.std.proofs.Common.{◌≡◌, ◌-◌, ◌++◌, length, map, take}
use Rattle.row_placer.specs.Numbers.{number}
use Rattle.row_placer.proofs.reading.push_numbers.Given as goal

abbrev pub invariant-loop-at : goal.invariant-loop-at
invariant-loop-at l = l.numbers.items ≡ l.fn.numbers.items ++ map (number l.fn.list) (take l.at l.fn.srcs)

abbrev pub decreases-loop-at : goal.decreases-loop-at
decreases-loop-at l = length l.fn.srcs - l.at
