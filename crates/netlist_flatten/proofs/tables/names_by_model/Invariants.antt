use Rattle.netlist_flatten.proofs.Tabling.{KnownBefore}
use Rattle.netlist_flatten.proofs.tables.names_by_model.Given as goal

abbrev pub invariant-loop-at : goal.invariant-loop-at
invariant-loop-at l = KnownBefore l.design l.placed l.at-index l.names.items
