use Rattle.std.proofs.Common.{◌≡◌, map, take}
use Rattle.aiger_meaning.specs.Ids.{net_numbers}
use Rattle.aiger_meaning.specs.Laws.{literal_of_net}
use Rattle.aiger_meaning.proofs.loop_literals.literals_at.Given as goal

abbrev pub invariant-loop-net : goal.invariant-loop-net
invariant-loop-net l = l.found.items ≡ map (literal_of_net l.aig) (net_numbers (take l.net-index l.nets))
