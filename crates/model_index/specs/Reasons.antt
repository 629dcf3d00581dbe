-- Why there is no order.
use Rattle.std.specs.Prelude.{List}
use Rattle.netlist_core.specs.declared.model.Model.{Model}
use Rattle.netlist_core.specs.Names.{Name}
use Rattle.netlist_rules.specs.Circles.{Leads}
use Rattle.model_index.specs.declared.error.ModelOrderError.{ModelOrderError}
use Rattle.model_index.specs.declared.error.ModelOrderError.TheVariants.{NoMemory, Circle}

-- the model of some name leads back to itself
abbrev pub IsCircular : List Model → Type 0
IsCircular models = (name : Name) × (names : List Name) × Leads models name names name

-- a refusal comes only if a model leads back to itself, unless memory ran out
abbrev pub IsModelOrderRefusal : List Model → ModelOrderError → Type 0
IsModelOrderRefusal models NoMemory = Unit {0}
IsModelOrderRefusal models Circle = IsCircular models
