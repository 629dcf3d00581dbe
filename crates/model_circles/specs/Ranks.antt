-- Ranks of models, which do not rise along subckt lines.
use Rattle.model_circles.specs.declared.components.Components.{Components}
use Rattle.std.specs.Prelude.{ℕ, ◌≡◌, ◌<◌, ◌≤◌, List, length, get_or, All}
use Rattle.netlist_core.specs.declared.model.Model.{Model}
use Rattle.model_index.specs.Numbers.{Places}

-- there are so many models, and each number is below that
pub record AreWithin (count : ℕ) (components : Components) : Type 0 where
  pub notes : length components.notes.items ≡ count
  pub path : All (λ n. n < count) components.path.items
  pub open_models : All (λ n. n < count) components.open.items

-- the models that a model's lines place have no greater rank than it
abbrev pub NeverRisesAt : List Model → List ℕ → ℕ → Type 0
NeverRisesAt models ranks n =
    (k inner : ℕ) → Places models n k inner → get_or ranks inner 0 ≤ get_or ranks n 0

pub record AreRanks (models : List Model) (ranks : List ℕ) : Type 0 where
  pub fit : length ranks ≡ length models
  pub never_rise : (n : ℕ) → n < length models → NeverRisesAt models ranks n
