use Rattle.std.proofs.Common.{◌≡◌, ◌++◌, map, take}
use Rattle.netlist_core.specs.Names.{at_line}
use Rattle.design_walks.specs.Words.{as_ports}
use Rattle.design_walks.proofs.words.push_names.Given as goal

abbrev pub invariant-loop-name : goal.invariant-loop-name
invariant-loop-name l = as_ports l.words.items ≡ as_ports l.initial.words.items ++ map (at_line l.line) (take l.name-index l.names)
