-- The exchange of columns and rows: the cell of column x and row y comes to column y and row x.
use Rattle.std.specs.Prelude.{ℕ, ◌≡◌, List, map}
use Rattle.ww_rule.specs.declared.pattern.Injection.{Injection}
use Rattle.ww_rule.specs.Wireworld.{Plane, Due, next_plane, evolve, driven}
use Rattle.ww_rule.specs.Injections.{due_of_list}

-- the plane with its columns as rows
abbrev pub turned : Plane → Plane
turned p x y = p y x

-- the cells that are due, and an injection, turned as planes are
abbrev pub due_turned : Due → Due
due_turned due g x y = due g y x

abbrev pub injection_turned : Injection → Injection
injection_turned i = record { generation = i.generation; x = i.y; y = i.x }

-- the rule, and any number of its generations, commute with the exchange
abbrev pub KeepsTurns : Type 0
KeepsTurns =
    ((p : Plane) → next_plane (turned p) ≡ turned (next_plane p))
    × ((n : ℕ) (p : Plane) → evolve n (turned p) ≡ turned (evolve n p))

-- turning a plane together with its injections turns its driven evolution; turning the injections
-- of a list one by one turns what the list makes due
pub record DrivesTurned : Type 0 where
  pub turns : (due : Due) (p : Plane) (g : ℕ)
      → driven (due_turned due) (turned p) g ≡ turned (driven due p g)
  pub lists : (injections : List Injection)
      → due_of_list (map injection_turned injections) ≡ due_turned (due_of_list injections)
