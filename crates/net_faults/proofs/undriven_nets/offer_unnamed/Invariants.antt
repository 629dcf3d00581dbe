use Rattle.std.proofs.Common.{◌≡◌, List, drop}
use Rattle.std.specs.Prelude.{filter_map}
use Rattle.netlist_core.specs.declared.model.Port.{Port}
use Rattle.netlist_rules.specs.ModelFaults.{unless_named}
use Rattle.model_words.specs.Words.{word_ports, earliest_word, earliest_after}
use Rattle.net_faults.specs.FirstLines.{AreFirstLines}
use Rattle.net_faults.proofs.undriven_nets.offer_unnamed.Given as goal

abbrev pub invariant-loop-word : goal.invariant-loop-word
invariant-loop-word l = (ports : List Port) → AreFirstLines l.names l.drivers ports →
    earliest_after (earliest_word l.earliest) (filter_map (unless_named ports) (word_ports (drop l.word-index l.words))) ≡ earliest_after (earliest_word l.initial.earliest) (filter_map (unless_named ports) (word_ports l.words))
