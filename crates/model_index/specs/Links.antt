-- What the models place, as numbers that lead to others.
use Rattle.std.specs.Prelude.{ℕ, ◌≡◌, List, [], length, get_or, None}
use Rattle.netlist_core.specs.declared.model.Model.{Model}
use Rattle.depth_walk.specs.Links.{Links}
use Rattle.model_index.specs.Numbers.{number_placed}

-- the steps of each model are what its subckt lines place, in order
pub record AreLines (models : List Model) (links : Links) : Type 0 where
  pub long : length links ≡ length models
  pub each : (n k : ℕ) → get_or (get_or links n []) k None ≡ number_placed models n k
