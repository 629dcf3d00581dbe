use Rattle.netlist_flatten.proofs.Tabling.{FirstsBefore}
use Rattle.netlist_flatten.proofs.tables.firsts_of.Given as goal

abbrev pub invariant-loop-at : goal.invariant-loop-at
invariant-loop-at l = FirstsBefore l.design l.at-index l.first l.firsts.items
