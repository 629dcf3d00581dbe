-- Lanes of ports by spans.
use Rattle.std.specs.Prelude.{ℕ, ◌<◌, ◌≤◌, ◌≢◌, List, All, AllPairs, Contains}

-- no lane that is at least `low` and below `high` is in the list twice
abbrev pub AreDistinctWithin : ℕ → ℕ → List ℕ → Type 0
AreDistinctWithin low high lanes = AllPairs (λ a b. low ≤ a → a < high → a ≢ b) lanes

-- one of the lanes, and the least of those that are at least `from`
pub record IsLeastFrom (from : ℕ) (lanes : List ℕ) (least : ℕ) : Type 0 where
  pub among : Contains lanes least
  pub reached : from ≤ least
  pub first : All (λ lane. from ≤ lane → least ≤ lane) lanes
