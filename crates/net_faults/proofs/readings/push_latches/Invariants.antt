use Rattle.std.proofs.Common.{◌≡◌, ◌++◌, take, flat_map}
use Rattle.netlist_rules.specs.Drivers.{latch_readings}
use Rattle.model_words.specs.Words.{word_ports}
use Rattle.net_faults.proofs.readings.push_latches.Given as goal

abbrev pub invariant-loop-latch : goal.invariant-loop-latch
invariant-loop-latch l = word_ports l.words.items ≡ word_ports l.initial.words.items ++ flat_map latch_readings (take l.latch-index l.latches)
