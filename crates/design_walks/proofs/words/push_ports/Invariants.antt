use Rattle.std.proofs.Common.{◌≡◌, ◌++◌, take}
use Rattle.design_walks.specs.Words.{as_ports}
use Rattle.design_walks.proofs.words.push_ports.Given as goal

abbrev pub invariant-loop-port : goal.invariant-loop-port
invariant-loop-port l = as_ports l.words.items ≡ as_ports l.initial.words.items ++ take l.port-index l.ports
