-- Covers that are a constant by their text, and covers of two nets that are one cell.
use Rattle.std.specs.Prelude.{ℕ, zero, suc, Bool, false, ◌&&◌, ◌||◌, cond, List, [], ◌∷◌, Option, Some, None, codes, bytes_eq}
use Rattle.cell_core.specs.declared.cells.Src.{Src}
use Rattle.cell_core.specs.declared.cells.Src.TheVariants.{One, Zero}
use Rattle.cell_core.specs.declared.cells.Cell.{Cell}
use Rattle.cell_core.specs.declared.cells.Cell.TheVariants.{Or, Xor, AndNot}

-- the constant that a cover of so many nets is by its text, if it is one: 0 without rows, and
-- without nets what its rows end in
abbrev pub constant_source : ℕ → List (List ℕ) → Bool → Option Src
constant_source nets [] on = Some Zero
constant_source zero (row ∷ rows) on = Some (cond on One Zero)
constant_source (suc nets) (row ∷ rows) on = None

abbrev pub is_only : List (List ℕ) → List ℕ → Bool
is_only [] a = false
is_only (row ∷ []) a = bytes_eq row a
is_only (row ∷ other ∷ rows) a = false

abbrev pub are_both : List (List ℕ) → List ℕ → List ℕ → Bool
are_both [] a b = false
are_both (row ∷ []) a b = false
are_both (row ∷ other ∷ []) a b = bytes_eq row a && bytes_eq other b
are_both (row ∷ other ∷ third ∷ rows) a b = false

-- the two rows, in either order
abbrev pub are_pair : List (List ℕ) → List ℕ → List ℕ → Bool
are_pair rows a b = are_both rows a b || are_both rows b a

abbrev pub cell_of_rows : Src → Src → List (List ℕ) → Option Cell
cell_of_rows a b rows =
    cond (are_pair rows (codes "1-") (codes "-1")) (Some (Or a b))
    (cond (are_pair rows (codes "10") (codes "01")) (Some (Xor a b))
    (cond (is_only rows (codes "10")) (Some (AndNot a b))
    (cond (is_only rows (codes "01")) (Some (AndNot b a)) None)))

-- the one cell of a cover of two nets with the rows of an OR, an XOR or an AND-NOT
abbrev pub single_cell : List Src → List (List ℕ) → Bool → Option Cell
single_cell [] rows on = None
single_cell (a ∷ []) rows on = None
single_cell (a ∷ b ∷ []) rows on = cond on (cell_of_rows a b rows) None
single_cell (a ∷ b ∷ c ∷ sources) rows on = None
