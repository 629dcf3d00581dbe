-- Orders of numbers, and circles.
use Rattle.std.specs.Prelude.{ℕ, ◌≡◌, ◌≢◌, ◌<◌, ◌≤◌, ◌+◌, ◌-◌, List, length, get_or, All, AllPairs, Contains}
use Rattle.depth_walk.specs.Links.{Links, LeadsTo, LeadsOnTo}

-- an order: it has all numbers, each of them once and after the numbers that it leads to
pub record IsOrderOf (links : Links) (order : List ℕ) : Type 0 where
  pub numbers : All (λ n. n < length links) order
  pub once : AllPairs (λ a b. a ≢ b) order
  pub all : (n : ℕ) → n < length links → Contains order n
  pub few : length order ≤ length links
  pub after : (i k other : ℕ) → i < length order → LeadsTo links (get_or order i 0) k other
      → (j : ℕ) × (j < i) × (get_or order j 0 ≡ other)

-- a circle: at least one number and none twice; each leads to the next, and the last leads to the
-- first
pub record IsCircleOf (links : Links) (circle : List ℕ) : Type 0 where
  pub some : 0 < length circle
  pub numbers : All (λ n. n < length links) circle
  pub once : AllPairs (λ a b. a ≢ b) circle
  pub steps : (i : ℕ) → i + 1 < length circle
      → LeadsOnTo links (get_or circle i 0) (get_or circle (i + 1) 0)
  pub closes : LeadsOnTo links (get_or circle (length circle - 1) 0) (get_or circle 0 0)
