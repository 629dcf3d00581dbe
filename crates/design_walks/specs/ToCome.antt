-- What a walk over the places of a design has still to list.
use Rattle.std.specs.Prelude.{ℕ, suc, ◌≡◌, ◌-◌, List, [], ◌∷◌, ◌++◌, Some, None, length, map, slice_get, position, MatchOption, option_map, option_to_list}
use Rattle.netlist_core.specs.declared.model.Design.{Design}
use Rattle.netlist_core.specs.declared.model.Model.{Model}
use Rattle.netlist_core.specs.declared.model.Subckt.{Subckt}
use Rattle.netlist_core.specs.Names.{is_model_named, model_named}
use Rattle.netlist_meaning.specs.Places.{Place}
use Rattle.netlist_meaning.specs.InOrder.{of_some, places_in_lines, places_below}
use Rattle.design_walks.specs.declared.placed.PlacedModel.{PlacedModel}
use Rattle.design_walks.specs.Places.{IsModelAt, HasParent}

-- the place of the main model
abbrev pub main_placed : PlacedModel
main_placed = record { place = []; model = 0; parent = None }

-- the model of number `model`, at the place that a line leads to from the place of number `number`
abbrev pub inner_at : PlacedModel → ℕ → ℕ → ℕ → PlacedModel
inner_at outer number line model =
    record {
      place = outer.place ++ line ∷ [];
      model = model;
      parent = Some (record { number = number; line = line });
    }

-- the place that a line leads to, if there is a model of the name on the line
abbrev pub placed_by : List Model → PlacedModel → ℕ → ℕ → Subckt → List PlacedModel
placed_by models outer number line subckt =
    option_to_list (option_map (inner_at outer number line)
    (position (is_model_named subckt.model) models))

-- the places that some lines lead to, the last line's first; the first line has number `first`
abbrev pub placed_by_lines : List Model → PlacedModel → ℕ → ℕ → List Subckt → List PlacedModel
placed_by_lines models outer number first [] = []
placed_by_lines models outer number first (line ∷ lines) =
    placed_by_lines models outer number (suc first) lines
    ++ placed_by models outer number first line

-- the places inside a place that some lines of its model lead to, counted from the main model; the
-- first line has number `first`
abbrev pub places_of_lines : Design → Place → ℕ → List Subckt → List Place
places_of_lines design place first lines =
    map (λ inner. place ++ inner) (places_in_lines (λ line. of_some
    (places_below design (length design.models - suc (length place)))
    (model_named design.models line.model)) first lines)

-- the places inside a place
abbrev pub places_inside : Design → PlacedModel → List Place
places_inside design placed =
    of_some (λ (model : Model). places_of_lines design placed.place 0 model.subckts)
    (slice_get design.models placed.model)

-- the places on a stack, from its top, each followed by those inside it
abbrev pub places_to_come : Design → List PlacedModel → List Place
places_to_come design [] = []
places_to_come design (placed ∷ stack) =
    places_to_come design stack ++ placed.place ∷ places_inside design placed

-- a place to come has a model, and its parent is listed
pub record IsToCome (design : Design) (listed : List PlacedModel)
    (placed : PlacedModel) : Type 0 where
  pub model : IsModelAt design placed
  pub parent : MatchOption placed.parent (placed.place ≡ [])
      (HasParent listed (length listed) placed.place)
