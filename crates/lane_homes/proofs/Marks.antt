-- Marks of the lanes that stood.
use Rattle.std.proofs.Common.{◌≡◌, ◌≢◌, ℕ, ◌<◌, Bool, true, false, List, length, get_or}

-- the first n lanes have marks, and are apart
pub record AreMarked (limit n : ℕ) (lanes : List ℕ) (marks : List Bool) : Type 0 where
  pub long : length marks ≡ limit
  pub marked : (i d : ℕ) → i < n → (get_or lanes i d < limit) × (get_or marks (get_or lanes i d) false ≡ true)
  pub apart : (i j d : ℕ) → i < j → j < n → get_or lanes i d ≢ get_or lanes j d
