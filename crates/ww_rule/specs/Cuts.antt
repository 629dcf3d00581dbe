-- Cells row by row in one list, and the rows into which they are cut.
use Rattle.std.specs.Prelude.{ℕ, zero, suc, ◌+◌, ◌*◌, List, [], ◌∷◌, ◌++◌, take, drop, replicate}
use Rattle.ww_rule.specs.declared.pattern.State.{State}

-- the cells, cut into so many rows of `width` cells each
abbrev pub cut_rows : ℕ → ℕ → List State → List (List State)
cut_rows width zero cells = []
cut_rows width (suc n) cells = take width cells ∷ cut_rows width n (drop width cells)

-- the row with n cells, from column x on, made this state
abbrev pub with_run : List State → ℕ → ℕ → State → List State
with_run row x n state = take x row ++ (replicate n state ++ drop (x + n) row)

-- the cells, in rows of `width` each, with row y replaced
abbrev pub with_row : List State → ℕ → ℕ → List State → List State
with_row cells width y row = take (y * width) cells ++ (row ++ drop (y * width + width) cells)
