-- Where the models of a design stand. By the BLIF report a `.subckt` line places the model that it
-- names inside the model in which it stands; the first model of the text is the main one.
use Rattle.std.specs.Prelude.{ℕ, ◌<◌, ◌≡◌, ◌⊎◌, List, [], ◌∷◌, Option, Some, slice_get, option_and_then, option_map, unwrap_or, IsSome}
use Rattle.netlist_core.specs.declared.model.Design.{Design}
use Rattle.netlist_core.specs.declared.model.Model.{Model}
use Rattle.netlist_core.specs.declared.model.Port.{Port}
use Rattle.netlist_core.specs.declared.model.LatchRow.{LatchRow}
use Rattle.netlist_core.specs.Names.{Name, port_names, model_named}

-- a place: the numbers (from 0, per model, in the order of the text) of the subckt lines that lead
-- to it from the main model, which stands at the place of no numbers
abbrev pub Place : Type 0
Place = List ℕ

-- the main model is the first
abbrev pub main_model : Design → Option Model
main_model design = slice_get design.models 0

-- the model that a model's subckt line of that number places
abbrev pub model_placed : Design → Model → ℕ → Option Model
model_placed design model number =
    option_and_then (λ line. model_named design.models line.model) (slice_get model.subckts number)

-- the model that the subckt lines of these numbers lead to from a model
abbrev pub model_below : Design → Place → Model → Option Model
model_below design [] model = Some model
model_below design (number ∷ place) model =
    option_and_then (model_below design place) (model_placed design model number)

-- the model at a place
abbrev pub model_at : Design → Place → Option Model
model_at design place = option_and_then (model_below design place) (main_model design)

-- a place of the design is one at which a model stands
abbrev pub IsPlace : Design → Place → Type 0
IsPlace design place = IsSome (model_at design place)

-- the latch of that number (from 0, in the order of the text) at a place
abbrev pub latch_at : Design → Place → ℕ → Option LatchRow
latch_at design place number =
    option_and_then (λ model. slice_get model.latches number) (model_at design place)

-- a list of ports of the main model
abbrev pub main_ports : (Model → List Port) → Design → List Port
main_ports ports_of design = unwrap_or (option_map ports_of (main_model design)) []

-- the main model's `.inputs`, `.outputs` and `.clock` names
abbrev pub main_inputs : Design → List Name
main_inputs design = port_names (main_ports (λ model. model.ins) design)

abbrev pub main_outputs : Design → List Name
main_outputs design = port_names (main_ports (λ model. model.outs) design)

abbrev pub main_clocks : Design → List Name
main_clocks design = port_names (main_ports (λ model. model.clocks) design)

-- the order of places: by their numbers from the first on, a place before those inside it, the main
-- model first
abbrev pub IsBefore : Place → Place → Type 0
IsBefore [] [] = ⊥
IsBefore [] (n ∷ q) = Unit {0}
IsBefore (m ∷ p) [] = ⊥
IsBefore (m ∷ p) (n ∷ q) = (m < n) ⊎ ((m ≡ n) × IsBefore p q)
