use Rattle.std.proofs.Common.{map, take}
use Rattle.netlist_core.specs.Names.{at_line, is_named}
use Rattle.netlist_core.specs.declared.model.Pin.{Pin}
use Rattle.model_words.specs.NameSets.{HasNames}
use Rattle.pin_faults.proofs.names.formals_of.Given as goal

abbrev pub invariant-loop-pin : goal.invariant-loop-pin
invariant-loop-pin l = HasNames l.names (is_named (map (λ (pin : Pin). at_line l.line.line pin.formal) (take l.pin-index l.pin-items)))
