-- Names of edges that are lit at generation 0.
use Rattle.std.specs.Prelude.{ℕ, ◌==◌, nat_lt, Bool, true, ◌&&◌, ◌||◌, List, [], ◌∷◌}
use Rattle.std.specs.List.{list_all, list_any}
use Rattle.lane_core.specs.declared.starts.Start.{Start}

-- the first of two names lies in a row further north, or further west in the same row
abbrev pub is_before : Start → Start → Bool
is_before a b = nat_lt a.y b.y || (a.y == b.y && nat_lt a.x b.x)

-- the names are in this order, each of them once
abbrev pub are_starts_in_order : List Start → Bool
are_starts_in_order [] = true
are_starts_in_order (first ∷ rest) = list_all (is_before first) rest && are_starts_in_order rest

-- the cell with this x and this y is one of the names
abbrev pub is_start_at : List Start → ℕ → ℕ → Bool
is_start_at names x y = list_any (λ start. start.x == x && start.y == y) names
