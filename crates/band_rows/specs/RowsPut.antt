-- Rows of words that are put into planes.
use Rattle.std.specs.Prelude.{ℕ, ◌<◌, ◌≡◌, ◌≢◌, List, get_or}
use Rattle.lane_kernel.specs.PlaneRows.{place}

-- The r-th words of so many word columns are these, and all others are as they were.
pub record HasRowPut (stride r columns : ℕ) (words : ℕ → ℕ) (old new : List ℕ) : Type 0 where
  pub at : (c : ℕ) → c < columns → get_or new (place stride c r) 0 ≡ words c
  pub other : (i : ℕ) → ((c : ℕ) → c < columns → i ≢ place stride c r)
      → get_or new i 0 ≡ get_or old i 0
