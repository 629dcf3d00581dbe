use Rattle.std.proofs.Common.{List, [], drop}
use Rattle.netlist_core.specs.declared.model.Port.{Port}
use Rattle.netlist_rules.specs.ModelFaults.{doubles_after}
use Rattle.model_words.specs.Words.{earliest_word, earliest_after}
use Rattle.net_faults.specs.Numbering.{numbered_ports}
use Rattle.net_faults.specs.Elsewhere.{KnowsOthers, stands_elsewhere}
use Rattle.net_faults.proofs.Passing.{IsLeft}
use Rattle.net_faults.proofs.duplicates.offer_doubles.Given as goal

abbrev pub invariant-loop-word : goal.invariant-loop-word
invariant-loop-word l = (others : List Port) → KnowsOthers l.names l.elsewhere others →
    IsLeft l.names l.repeats (drop l.word-index l.words) (λ before left. earliest_after (earliest_word l.earliest) (doubles_after (stands_elsewhere l.elsewhere others) before left))
    (earliest_after (earliest_word l.initial.earliest) (doubles_after (stands_elsewhere l.elsewhere others) [] (numbered_ports l.words)))
