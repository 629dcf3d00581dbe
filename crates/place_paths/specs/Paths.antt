-- How a port table writes the place of a model.
use Rattle.std.specs.Prelude.{ℕ, ◌^◌, ◌<◌, ◌≡◌, List, [], ◌∷◌, map, Some, codes, decimal, All}
use Rattle.std.specs.List.{join_with_byte}
use Rattle.netlist_core.specs.Names.{Name}
use Rattle.netlist_meaning.specs.Places.{Place}
use Rattle.pattern_reading.specs.declared.ports.NetLine.{NetLine}
use Rattle.pattern_reading.specs.PortLines.{path_in}

-- the path of a place: its numbers, joined by dots, or `-` for that of the main model
abbrev pub path_of : Place → List ℕ
path_of [] = codes "-"
path_of (number ∷ place) = join_with_byte 46 (map decimal (number ∷ place))

-- a name at a place, with the place's path; and the names of net lines, each with its path
abbrev pub name_and_path : Place → Name → Name × List ℕ
name_and_path place name = (name, path_of place)

abbrev pub names_and_paths : List NetLine → List (Name × List ℕ)
names_and_paths lines = map (λ line. (line.name, line.path)) lines

-- a table may write each number of the place
abbrev pub HasTableNumbers : Place → Type 0
HasTableNumbers place = All (λ number. number < 2 ^ 64) place

-- the path of a place with such numbers is read as it stands
abbrev pub PathsAreRead : Type 0
PathsAreRead =
    (place : Place) → HasTableNumbers place → path_in (path_of place) ≡ Some (path_of place)

-- different places with such numbers have different paths
abbrev pub PathsAreDistinct : Type 0
PathsAreDistinct =
    (a b : Place) → HasTableNumbers a → HasTableNumbers b → path_of a ≡ path_of b → a ≡ b
