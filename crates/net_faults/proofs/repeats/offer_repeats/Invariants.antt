use Rattle.std.proofs.Common.{drop}
use Rattle.netlist_rules.specs.Drivers.{repeats, repeats_after}
use Rattle.model_words.specs.Words.{earliest_word, earliest_after}
use Rattle.net_faults.specs.Numbering.{numbered_ports}
use Rattle.net_faults.proofs.Passing.{IsLeft}
use Rattle.net_faults.proofs.repeats.offer_repeats.Given as goal

abbrev pub invariant-loop-word : goal.invariant-loop-word
invariant-loop-word l =
    IsLeft l.names l.repeats (drop l.word-index l.words) (λ before left. earliest_after (earliest_word l.earliest) (repeats_after before left)) (earliest_after (earliest_word l.initial.earliest) (repeats (numbered_ports l.words)))
