use Rattle.std.proofs.Common.{◌≡◌, take}
use Rattle.model_words.specs.Words.{earliest_word, earliest_after}
use Rattle.pin_faults.specs.NotNamed.{ports_unless}
use Rattle.lists.specs.Names.{holds_name}
use Rattle.pin_faults.proofs.missing.offer_others.Given as goal

abbrev pub invariant-loop-port : goal.invariant-loop-port
invariant-loop-port l = earliest_word l.earliest ≡ earliest_after (earliest_word l.initial.earliest) (ports_unless (holds_name l.names) (take l.port-index l.ports))
