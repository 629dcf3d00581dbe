-- Injections: cells that are made heads from outside, given by a list or by streams of bits.
use Rattle.std.specs.Prelude.{ℤ, pos, ℕ, zero, suc, ◌+◌, ◌<◌, ◌==◌, ◌≡◌, Bool, true, ◌&&◌, cond, List, [], ◌∷◌, ◌++◌, map, filter, All}
use Rattle.std.specs.List.{list_any}
use Rattle.std.specs.Ordering.{int_eq}
use Rattle.ww_rule.specs.declared.pattern.Injection.{Injection}
use Rattle.ww_rule.specs.declared.pattern.State.TheVariants.{Conductor}
use Rattle.ww_rule.specs.Wireworld.{Plane, Due, next_plane, driven}

-- is the cell at x, y one of these?
abbrev pub has_cell : List (ℕ × ℕ) → ℤ → ℤ → Bool
has_cell cells x y = list_any (λ cell. int_eq (pos cell.0) x && int_eq (pos cell.1) y) cells

-- the cells of the injections of a generation
abbrev pub cells_at : ℕ → List Injection → List (ℕ × ℕ)
cells_at g injections = map (λ i. (i.x, i.y)) (filter (λ i. i.generation == g) injections)

-- what a list of injections makes due
abbrev pub due_of_list : List Injection → Due
due_of_list injections g = has_cell (cells_at g injections)

-- the injections of one cycle: at a generation, each cell whose bit is 1; cells without a bit and
-- bits without a cell inject nothing
abbrev pub injections_of_row : ℕ → List (ℕ × ℕ) → List Bool → List Injection
injections_of_row g [] bits = []
injections_of_row g (cell ∷ cells) [] = []
injections_of_row g (cell ∷ cells) (bit ∷ bits) =
    cond bit (record { generation = g; x = cell.0; y = cell.1 } ∷ []) []
    ++ injections_of_row g cells bits

-- the injections of rows of bits, one row a cycle: the first cycle is at this generation, and each
-- later one `period` generations after the one before
abbrev pub injections_from : ℕ → ℕ → List (ℕ × ℕ) → List (List Bool) → List Injection
injections_from g period cells [] = []
injections_from g period cells (row ∷ rows) =
    injections_of_row g cells row ++ injections_from (g + period) period cells rows

-- what streams of bits make due: at generation t * period the cells whose bits are 1 in row t
abbrev pub due_of_streams : ℕ → List (ℕ × ℕ) → List (List Bool) → Due
due_of_streams period cells rows = due_of_list (injections_from 0 period cells rows)

-- the plane of a generation before that generation's injections
abbrev pub before_injections : Due → Plane → ℕ → Plane
before_injections due p zero = p
before_injections due p (suc g) = next_plane (driven due p g)

-- each injection meets a cell that is a conductor before that generation's injections
abbrev pub MeetsConductors : Due → Plane → Type 0
MeetsConductors due p =
    (g : ℕ) (x y : ℤ) → due g x y ≡ true → before_injections due p g x y ≡ Conductor

-- all injections are at cells of the box
abbrev pub AreInside : (width height : ℕ) → List Injection → Type 0
AreInside width height injections = All (λ i. (i.x < width) × (i.y < height)) injections
