use Rattle.std.proofs.Common.{◌≡◌, ◌++◌, take, flat_map}
use Rattle.netlist_rules.specs.Drivers.{cover_readings}
use Rattle.model_words.specs.Words.{word_ports}
use Rattle.net_faults.proofs.readings.push_covers.Given as goal

abbrev pub invariant-loop-cover : goal.invariant-loop-cover
invariant-loop-cover l = word_ports l.words.items ≡ word_ports l.initial.words.items ++ flat_map cover_readings (take l.cover-index l.covers)
