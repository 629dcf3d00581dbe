-- Cells of a row that are alike.
use Rattle.std.specs.Prelude.{ℕ, ◌+◌, ◌<◌, ◌≤◌, ◌≡◌}

-- from place x of a row on, a number of cells, from 1 to the limit, all have this value
pub record IsRowRun {A : Type 0} (row : ℕ → A) (x limit : ℕ) (run : A × ℕ) : Type 0 where
  pub some : 1 ≤ run.1
  pub within : run.1 ≤ limit
  pub alike : (i : ℕ) → i < run.1 → row (x + i) ≡ run.0
