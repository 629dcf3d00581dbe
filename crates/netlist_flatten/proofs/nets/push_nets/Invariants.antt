use Rattle.std.proofs.Common.{◌≡◌, ◌+◌, ◌++◌, length, map, take}
use Rattle.netlist_meaning.specs.Nets.{net_at}
use Rattle.netlist_meaning.specs.FlatOf.{flat_net}
use Rattle.netlist_flatten.specs.Numbered.{place_at, nets_before}
use Rattle.netlist_flatten.proofs.nets.push_nets.Given as goal

abbrev pub invariant-loop-name : goal.invariant-loop-name
invariant-loop-name l = record {
  number : l.number ≡ length (nets_before l.numbers l.at) + l.name-index;
  nets : l.nets.items ≡ l.initial.nets.items ++ map (λ name. flat_net l.numbers (net_at (place_at l.numbers l.at) name.now)) (take l.name-index l.name-items);
}
