-- Names of models and nets, and the lists that have them.
use Rattle.std.specs.Prelude.{ℕ, Bool, List, map, bytes_eq, Option, find}
use Rattle.std.specs.List.{list_any}
use Rattle.netlist_core.specs.declared.model.Port.{Port}
use Rattle.netlist_core.specs.declared.model.Model.{Model}

-- a name, as the bytes of its word
abbrev pub Name : Type 0
Name = List ℕ

-- A `Port` is any name with the number of its line, whatever the name stands for.
abbrev pub at_line : ℕ → Name → Port
at_line line name = record { line = line; name = name }

-- the names of a list of ports
abbrev pub port_names : List Port → List Name
port_names ports = map (λ port. port.name) ports

-- whether the port has the name; whether a port of the list has it
abbrev pub has_name : Name → Port → Bool
has_name name port = bytes_eq port.name name

abbrev pub is_named : List Port → Name → Bool
is_named ports name = list_any (has_name name) ports

-- whether the model has the name; the first model that has it
abbrev pub is_model_named : Name → Model → Bool
is_model_named name model = bytes_eq model.name name

abbrev pub model_named : List Model → Name → Option Model
model_named models name = find (is_model_named name) models
