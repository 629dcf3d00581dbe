-- Weights of models by their numbers.
use Rattle.std.specs.Prelude.{ℕ, ◌≡◌, ◌<◌, ◌-◌, ◌^◌, min, List, length, get_or, position, Some, slice_get}
use Rattle.std.specs.Option.{option_map_or}
use Rattle.netlist_core.specs.declared.model.Model.{Model}
use Rattle.netlist_core.specs.declared.model.Subckt.{Subckt}
use Rattle.netlist_core.specs.declared.model.Design.{Design}
use Rattle.netlist_core.specs.Names.{is_model_named}
use Rattle.netlist_meaning.specs.Weight.{weight_below}

-- the weight of the model that a line places, and 0 if it names none
abbrev pub line_weight : List Model → List ℕ → Subckt → ℕ
line_weight models weights line =
    option_map_or (λ inner. get_or weights inner 0) (position (is_model_named line.model) models) 0

-- The number is the weight of a model down to any depth over this one, or the greatest u64 if that
-- is more.
abbrev pub WeighsBeyond : Design → ℕ → Model → ℕ → Type 0
WeighsBeyond design place model weight =
    (depth : ℕ) → place < depth → weight ≡ min (weight_below design depth model) (2 ^ 64 - 1)

-- the weights of the first `count` models of an order are these
pub record AreWeights (design : Design) (order : List ℕ) (count : ℕ)
    (weights : List ℕ) : Type 0 where
  pub fit : length weights ≡ length design.models
  pub weighs : (i : ℕ) (model : Model) → i < count
      → slice_get design.models (get_or order i 0) ≡ Some model
      → WeighsBeyond design i model (get_or weights (get_or order i 0) 0)
