use Rattle.std.proofs.Common.{◌≡◌, map, take}
use Rattle.netlist_core.specs.declared.model.Pin.{Pin}
use Rattle.netlist_core.specs.Names.{at_line, is_named}
use Rattle.netlist_rules.specs.Drivers.{repeats}
use Rattle.model_words.specs.Words.{earliest_after, earliest_word}
use Rattle.model_words.specs.NameSets.{HasNames}
use Rattle.pin_faults.proofs.repeated.offer_line.Given as goal

abbrev pub invariant-loop-pin : goal.invariant-loop-pin
invariant-loop-pin l = record {
  names : HasNames l.seen (is_named (map (λ (pin : Pin). at_line l.line.line pin.formal) (take l.pin-index l.pin-items)));
  words : earliest_word l.earliest ≡ earliest_after (earliest_word l.initial.earliest) (repeats (map (λ (pin : Pin). at_line l.line.line pin.formal) (take l.pin-index l.pin-items)));
}
