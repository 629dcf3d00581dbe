-- The net of a literal, kept in a map.
use Rattle.std.specs.Prelude.{ℕ, ◌≡◌, ◌==◌, List}
use Rattle.std.specs.BTreeMap.{BTreeMap, get}
use Rattle.std.specs.List.{position_from}
use Rattle.std.specs.Ordering.{nat_cmp}

-- the map has the position of the first of each literal, counted from `net` on
abbrev pub HasNetsFrom : BTreeMap ℕ ℕ → ℕ → List ℕ → Type 0
HasNetsFrom nets net literals =
    (lit : ℕ) → get nat_cmp nets lit ≡ position_from (λ own. own == lit) net literals
