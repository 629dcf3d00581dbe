use Rattle.std.proofs.Common.{◌≡◌, map, take}
use Rattle.aiger_meaning.specs.FlatOf.{net_id, net_of_literal}
use Rattle.aiger_meaning.proofs.nodes.nets_of.Given as goal

abbrev pub invariant-loop-lit : goal.invariant-loop-lit
invariant-loop-lit l = l.ids.items ≡ map (λ lit. net_id (net_of_literal l.aig lit)) (take l.lit-index l.lits)
