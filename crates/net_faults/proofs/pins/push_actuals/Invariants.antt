use Rattle.std.proofs.Common.{◌≡◌, ◌++◌, List, take, flat_map}
use Rattle.netlist_core.specs.declared.model.Model.{Model}
use Rattle.netlist_rules.specs.Drivers.{actuals_on}
use Rattle.model_words.specs.Words.{word_ports}
use Rattle.model_words.specs.Placed.{KnowsPlaced}
use Rattle.net_faults.specs.Pins.{is_pin_of}
use Rattle.net_faults.proofs.pins.push_actuals.Given as goal

abbrev pub invariant-loop-subckt : goal.invariant-loop-subckt
invariant-loop-subckt l = (models : List Model) → KnowsPlaced l.placed models l.model →
    word_ports l.words.items ≡ word_ports l.initial.words.items ++ flat_map (actuals_on models (is_pin_of l.kind)) (take l.subckt-index l.subckt-items)
