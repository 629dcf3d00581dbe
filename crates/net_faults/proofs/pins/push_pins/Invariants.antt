use Rattle.std.proofs.Common.{◌≡◌, ◌++◌, take}
use Rattle.std.specs.Prelude.{Option, filter_map}
use Rattle.std.specs.Option.{option_copied}
use Rattle.netlist_core.specs.declared.model.Model.{Model}
use Rattle.netlist_rules.specs.Drivers.{actual_if}
use Rattle.model_words.specs.Words.{word_ports}
use Rattle.model_words.specs.Placed.{ArePlacedNames}
use Rattle.net_faults.specs.Pins.{is_pin_of}
use Rattle.net_faults.proofs.pins.push_pins.Given as goal

abbrev pub invariant-loop-pin : goal.invariant-loop-pin
invariant-loop-pin l = (model : Option Model) → ArePlacedNames model (option_copied l.placed) →
    word_ports l.words.items ≡ word_ports l.initial.words.items ++ filter_map (actual_if (is_pin_of l.kind model) l.subckt.line) (take l.pin-index l.pin-items)
