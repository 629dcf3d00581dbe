-- The places of a design in order, with their models and parents.
use Rattle.std.specs.Prelude.{ℕ, ◌≡◌, ◌<◌, List, [], ◌∷◌, ◌++◌, Some, length, map, slice_get, MatchOption}
use Rattle.netlist_core.specs.declared.model.Design.{Design}
use Rattle.netlist_meaning.specs.Places.{Place, model_at}
use Rattle.netlist_meaning.specs.InOrder.{places_in_order}
use Rattle.design_walks.specs.declared.placed.Parent.{Parent}
use Rattle.design_walks.specs.declared.placed.PlacedModel.{PlacedModel}

-- the parent is an earlier place of the list, and the place is that of one of its lines
pub record HasParent (places : List PlacedModel) (number : ℕ) (place : Place)
    (parent : Parent) : Type 0 where
  pub outer : PlacedModel
  pub is_there : slice_get places parent.number ≡ Some outer
  pub is_earlier : parent.number < number
  pub is_inside : place ≡ outer.place ++ parent.line ∷ []

-- the model of that number stands at the place
pub record IsModelAt (design : Design) (placed : PlacedModel) : Type 0 where
  pub is_there : placed.model < length design.models
  pub is_placed : model_at design placed.place ≡ slice_get design.models placed.model

-- the places in order, each with its model and its parent; only the main model's place has no
-- parent
pub record ArePlaces (design : Design) (places : List PlacedModel) : Type 0 where
  pub in_order : map (λ placed. placed.place) places ≡ places_in_order design
  pub models : (k : ℕ) (placed : PlacedModel) → slice_get places k ≡ Some placed
      → IsModelAt design placed
  pub parents : (k : ℕ) (placed : PlacedModel) → slice_get places k ≡ Some placed
      → MatchOption placed.parent (placed.place ≡ []) (HasParent places k placed.place)
