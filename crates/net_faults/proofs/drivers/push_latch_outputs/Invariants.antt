use Rattle.std.proofs.Common.{◌≡◌, ◌++◌, take, map}
use Rattle.netlist_rules.specs.Drivers.{latch_output}
use Rattle.model_words.specs.Words.{word_ports}
use Rattle.net_faults.proofs.drivers.push_latch_outputs.Given as goal

abbrev pub invariant-loop-latch : goal.invariant-loop-latch
invariant-loop-latch l = word_ports l.words.items ≡ word_ports l.initial.words.items ++ map latch_output (take l.latch-index l.latches)
