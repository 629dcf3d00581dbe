-- Ways among models by number.
use Rattle.std.specs.Prelude.{ℕ, ◌≡◌, ◌⊎◌, List, [], ◌∷◌}
use Rattle.netlist_core.specs.declared.model.Model.{Model}
use Rattle.model_index.specs.Numbers.{Places, LeadsBy}

-- the models lead on from `inner`, each to the next, and the last leads to the model at the end
abbrev pub LeadsBackBy : List Model → ℕ → List ℕ → ℕ → Type 0
LeadsBackBy models inner [] end = inner ≡ end
LeadsBackBy models inner (next ∷ numbers) end = (inner ≡ next) × LeadsBy models next numbers end

-- no number stands twice
abbrev pub Stands : ℕ → List ℕ → Type 0
Stands n [] = ⊥
Stands n (m ∷ ms) = (n ≡ m) ⊎ Stands n ms

abbrev pub AreDifferent : List ℕ → Type 0
AreDifferent [] = Unit {0}
AreDifferent (n ∷ ns) = ¬ Stands n ns × AreDifferent ns

-- a way back to the model at the end, on which no model stands twice
pub record IsWayBack (models : List Model) (inner end : ℕ) (numbers : List ℕ) : Type 0 where
  pub leads : LeadsBackBy models inner numbers end
  pub apart : AreDifferent (end ∷ numbers)

-- the k-th subckt line of a model lies on a circle
pub record LiesOnCircle (models : List Model) (n k : ℕ) : Type 0 where
  pub inner : ℕ
  pub placed : Places models n k inner
  pub numbers : List ℕ
  pub leads : LeadsBackBy models inner numbers n
