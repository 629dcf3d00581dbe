use Rattle.std.proofs.Common.{◌≡◌, ◌+◌, length, map}
use Rattle.std.specs.List.{range_with_len}
use Rattle.netlist_flatten.specs.Numbered.{nets_before}
use Rattle.netlist_flatten.proofs.classes.own_numbers.Given as goal

abbrev pub invariant-loop : goal.invariant-loop
invariant-loop l = record { number : l.number ≡ length (nets_before l.numbers l.at) + l.index; own : l.own.items ≡ map (λ j. length (nets_before l.numbers l.at) + j) (range_with_len 0 l.index) }
