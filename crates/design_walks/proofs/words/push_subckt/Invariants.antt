use Rattle.std.proofs.Common.{◌≡◌, ◌++◌, map, take}
use Rattle.netlist_core.specs.Names.{at_line}
use Rattle.design_walks.specs.Words.{as_ports}
use Rattle.design_walks.proofs.words.push_subckt.Given as goal

abbrev pub invariant-loop-pin : goal.invariant-loop-pin
invariant-loop-pin l = as_ports l.words.items ≡ as_ports l.initial.words.items ++ map (λ pin. at_line l.line.line pin.actual) (take l.pin-index l.pin-items)
