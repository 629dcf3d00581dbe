use Rattle.std.proofs.Common.{◌≡◌, ◌++◌, take}
use Rattle.model_words.specs.Words.{word_ports}
use Rattle.net_faults.proofs.words.push_ports.Given as goal

abbrev pub invariant-loop-port : goal.invariant-loop-port
invariant-loop-port l = word_ports l.words.items ≡ word_ports l.initial.words.items ++ take l.port-index l.ports
