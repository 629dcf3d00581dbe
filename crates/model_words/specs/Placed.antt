-- The ports of the models that subckt lines name.
use Rattle.std.specs.Prelude.{◌≡◌, ◌||◌, ◌⊎◌, Bool, List, length, Option, Some, None}
use Rattle.std.specs.List.{All, AllZip}
use Rattle.netlist_core.specs.declared.model.Model.{Model}
use Rattle.netlist_core.specs.Names.{Name}
use Rattle.netlist_rules.specs.Drivers.{has_input, has_output}
use Rattle.model_words.specs.declared.ports.PortNames.{PortNames}
use Rattle.model_words.specs.declared.placed.PlacedPorts.{PlacedPorts}
use Rattle.model_words.specs.NameSets.{HasNames}

-- whether a model has a port of this name
abbrev pub has_port : Name → Model → Bool
has_port name m = has_input name m || has_output name m

-- these are the names of this model's ports
pub record AreNamesOfPorts (names : PortNames) (m : Model) : Type 0 where
  pub inputs : HasNames names.inputs (λ name. has_input name m)
  pub outputs : HasNames names.outputs (λ name. has_output name m)

-- no model has a subckt line
abbrev pub ArePlain : List Model → Type 0
ArePlain models = All (λ m. length m.subckts ≡ 0) models

-- the names of each model's ports are kept, unless no model has a subckt line that would look them
-- up
pub record KnowsPorts (placed : PlacedPorts) (models : List Model) : Type 0 where
  pub named : placed.named.now ≡ models
  pub ports : AllZip AreNamesOfPorts placed.ports models ⊎ ArePlain models

-- so the subckt lines of this model, which is one of these, find the names that they look up
pub record KnowsPlaced (placed : PlacedPorts) (models : List Model) (m : Model) : Type 0 where
  pub ports : KnowsPorts placed models
  pub plain : ArePlain models → length m.subckts ≡ 0

-- these are the names of the model's ports; without a model there are no names
abbrev pub ArePlacedNames : Option Model → Option PortNames → Type 0
ArePlacedNames None None = Unit {0}
ArePlacedNames None (Some names) = ⊥
ArePlacedNames (Some m) None = ⊥
ArePlacedNames (Some m) (Some names) = AreNamesOfPorts names m
