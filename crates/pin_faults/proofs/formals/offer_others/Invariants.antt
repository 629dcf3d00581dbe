use Rattle.std.proofs.Common.{◌≡◌, filter_map, take}
use Rattle.netlist_core.specs.declared.model.Model.{Model}
use Rattle.model_words.specs.Words.{earliest_word, earliest_after}
use Rattle.model_words.specs.Placed.{AreNamesOfPorts, has_port}
use Rattle.pin_faults.specs.NotNamed.{formal_unless}
use Rattle.pin_faults.proofs.formals.offer_others.Given as goal

abbrev pub invariant-loop-pin : goal.invariant-loop-pin
invariant-loop-pin l = (model : Model) → AreNamesOfPorts l.names model →
    earliest_word l.earliest ≡ earliest_after (earliest_word l.initial.earliest) (filter_map (formal_unless (λ name. has_port name model) l.line.line) (take l.pin-index l.pin-items))
