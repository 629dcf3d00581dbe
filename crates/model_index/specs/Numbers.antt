-- Models by their numbers, from 0 in the order of the text, and what they place.
use Rattle.std.specs.Prelude.{ℕ, ◌≡◌, List, [], ◌∷◌, Option, Some, position, slice_get, option_and_then}
use Rattle.std.specs.Option.{option_map_or}
use Rattle.netlist_core.specs.declared.model.Model.{Model}
use Rattle.netlist_core.specs.declared.model.Subckt.{Subckt}
use Rattle.netlist_core.specs.Names.{Name, is_model_named}

-- the number of the first model of a name
unfoldable pub first_named : List Model → Name → Option ℕ
first_named models name = position (is_model_named name) models

-- the name of the model of a number
abbrev pub name_at : List Model → ℕ → Name
name_at models n = option_map_or (λ model. model.name) (slice_get models n) []

-- the subckt lines of the model of a number
abbrev pub subckts_of : List Model → ℕ → List Subckt
subckts_of models n = option_map_or (λ model. model.subckts) (slice_get models n) []

-- the number of the model that the k-th subckt line of a model names
unfoldable pub number_placed : List Model → ℕ → ℕ → Option ℕ
number_placed models n k =
    option_and_then (λ line. first_named models line.model) (slice_get (subckts_of models n) k)

-- the k-th subckt line of a model places another
abbrev pub Places : List Model → ℕ → ℕ → ℕ → Type 0
Places models n k inner = number_placed models n k ≡ Some inner

-- a model has a line that places another
abbrev pub PlacesSomewhere : List Model → ℕ → ℕ → Type 0
PlacesSomewhere models n inner = (k : ℕ) × Places models n k inner

-- each model places the next, and the last places the model at the end
abbrev pub LeadsBy : List Model → ℕ → List ℕ → ℕ → Type 0
LeadsBy models n [] end = PlacesSomewhere models n end
LeadsBy models n (next ∷ numbers) end =
    PlacesSomewhere models n next × LeadsBy models next numbers end
