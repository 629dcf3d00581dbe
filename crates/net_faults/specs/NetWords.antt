-- The words that name a model's nets where they are driven, and the words of its outputs.
use Rattle.std.specs.Prelude.{◌≡◌, ◌++◌, List, map}
use Rattle.netlist_core.specs.declared.model.Port.{Port}
use Rattle.netlist_core.specs.declared.model.Model.{Model}
use Rattle.netlist_rules.specs.Drivers.{actuals, cover_output, is_output_pin, is_unknown_pin, latch_output}
use Rattle.net_faults.specs.declared.net_words.NetWords.{NetWords}
use Rattle.net_faults.specs.Numbering.{AreNumbered, numbered_ports}

-- the drivers of a model's nets other than its inputs
abbrev pub other_drivers : List Model → Model → List Port
other_drivers models m =
    map cover_output m.covers ++ map latch_output m.latches ++ actuals models is_output_pin m

-- all words have their names' numbers
pub record HaveNumbers (words : NetWords) : Type 0 where
  pub inputs : AreNumbered words.names words.inputs.items
  pub outputs : AreNumbered words.names words.outputs.items
  pub others : AreNumbered words.names words.others.items
  pub unknown : AreNumbered words.names words.unknown.items

-- the words of the inputs and outputs are those of this model
pub record ArePortsOf (words : NetWords) (m : Model) : Type 0 where
  pub inputs : numbered_ports words.inputs.items ≡ m.ins ++ m.clocks
  pub outputs : numbered_ports words.outputs.items ≡ m.outs

-- the words of the other drivers, and of pins of an unknown model or formal, are those of this
-- model among these models
pub record AreDriverWords (words : NetWords) (models : List Model) (m : Model) : Type 0 where
  pub others : numbered_ports words.others.items ≡ other_drivers models m
  pub unknown : numbered_ports words.unknown.items ≡ actuals models is_unknown_pin m
