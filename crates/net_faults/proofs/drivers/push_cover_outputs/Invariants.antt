use Rattle.std.proofs.Common.{◌≡◌, ◌++◌, take, map}
use Rattle.netlist_rules.specs.Drivers.{cover_output}
use Rattle.model_words.specs.Words.{word_ports}
use Rattle.net_faults.proofs.drivers.push_cover_outputs.Given as goal

abbrev pub invariant-loop-cover : goal.invariant-loop-cover
invariant-loop-cover l = word_ports l.words.items ≡ word_ports l.initial.words.items ++ map cover_output (take l.cover-index l.covers)
