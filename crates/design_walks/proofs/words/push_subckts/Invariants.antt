use Rattle.std.proofs.Common.{◌≡◌, ◌++◌, flat_map, take}
use Rattle.netlist_meaning.specs.InOrder.{subckt_words}
use Rattle.design_walks.specs.Words.{as_ports}
use Rattle.design_walks.proofs.words.push_subckts.Given as goal

abbrev pub invariant-loop-line : goal.invariant-loop-line
invariant-loop-line l = as_ports l.words.items ≡ as_ports l.initial.words.items ++ flat_map subckt_words (take l.line-index l.lines)
