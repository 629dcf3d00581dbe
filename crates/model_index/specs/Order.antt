-- Orders of models.
use Rattle.std.specs.Prelude.{ℕ, ◌≡◌, ◌≢◌, ◌<◌, ◌≤◌, List, length, get_or, All, AllPairs, Contains}
use Rattle.netlist_core.specs.declared.model.Model.{Model}
use Rattle.model_index.specs.Numbers.{Places}

-- an order: it has all models by number, each of them once and after those that its subckt lines
-- place
pub record IsModelOrder (models : List Model) (order : List ℕ) : Type 0 where
  pub numbers : All (λ n. n < length models) order
  pub once : AllPairs (λ a b. a ≢ b) order
  pub all : (n : ℕ) → n < length models → Contains order n
  pub few : length order ≤ length models
  pub after : (i k inner : ℕ) → i < length order → Places models (get_or order i 0) k inner
      → (j : ℕ) × (j < i) × (get_or order j 0 ≡ inner)
