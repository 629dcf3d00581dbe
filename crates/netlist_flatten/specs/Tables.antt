-- What is kept of a design: its places, the names of the models that are placed, and the number of
-- each place's first net.
use Rattle.std.specs.Prelude.{ℕ, ◌≡◌, ◌<◌, ◌^◌, List, Option, Some, slice_get, length}
use Rattle.netlist_core.specs.declared.model.Design.{Design}
use Rattle.netlist_core.specs.declared.model.Model.{Model}
use Rattle.netlist_core.specs.Names.{Name}
use Rattle.netlist_meaning.specs.InOrder.{names_in_order}
use Rattle.netlist_meaning.specs.Weight.{weight}
use Rattle.netlist_rules.specs.ModelFaults.{AreFaultless}
use Rattle.design_walks.specs.declared.placed.PlacedModel.{PlacedModel}
use Rattle.design_walks.specs.Places.{ArePlaces}
use Rattle.netlist_flatten.specs.Numbered.{nets_before}

-- the names that are known are those of their models
abbrev pub AreOfModels : Design → List (Option (List Name)) → Type 0
AreOfModels design names =
    (k : ℕ) (model : Model) (own : List Name) → slice_get design.models k ≡ Some model
    → slice_get names k ≡ Some (Some own) → own ≡ names_in_order model

-- the names of a model are known
abbrev pub IsKnown : List (Option (List Name)) → PlacedModel → Type 0
IsKnown names placed = (own : List Name) × (slice_get names placed.model ≡ Some (Some own))

pub record AreNames (design : Design) (placed : List PlacedModel)
    (names : List (Option (List Name))) : Type 0 where
  pub many : length names ≡ length design.models
  pub right : AreOfModels design names
  pub known : (k : ℕ) (at : PlacedModel) → slice_get placed k ≡ Some at → IsKnown names at

pub record AreTables (design : Design) (placed : List PlacedModel)
    (names : List (Option (List Name))) (firsts : List ℕ) : Type 0 where
  pub faultless : AreFaultless design.models
  pub few : weight design < 2 ^ 32
  pub are_places : ArePlaces design placed
  pub are_names : AreNames design placed names
  pub are_firsts : (k : ℕ) → k < length placed
      → slice_get firsts k ≡ Some (length (nets_before design k))
