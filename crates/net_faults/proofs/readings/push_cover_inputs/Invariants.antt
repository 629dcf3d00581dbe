use Rattle.std.proofs.Common.{◌≡◌, ◌++◌, take, map}
use Rattle.netlist_core.specs.Names.{at_line}
use Rattle.model_words.specs.Words.{word_ports}
use Rattle.net_faults.proofs.readings.push_cover_inputs.Given as goal

abbrev pub invariant-loop-name : goal.invariant-loop-name
invariant-loop-name l = word_ports l.words.items ≡ word_ports l.initial.words.items ++ map (at_line l.cover.line) (take l.name-index l.name-items)
