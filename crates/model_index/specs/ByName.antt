-- The numbers of models, counted from 0, by their names.
use Rattle.std.specs.Prelude.{◌≡◌, ℕ, ◌<◌, false, List, Option, Some, slice_get}
use Rattle.std.specs.BTreeMap.{BTreeMap, get_by}
use Rattle.std.specs.Cmp.Lexicographic.{slice_cmp}
use Rattle.std.specs.List.{position_from}
use Rattle.std.specs.Ordering.{nat_cmp}
use denote.Ref.{Bor}
use Rattle.netlist_core.specs.declared.model.Model.{Model}
use Rattle.netlist_core.specs.Names.{Name, is_model_named, model_named}

-- the number is that of the first model of this name
pub record IsNumberOf (models : List Model) (name : Name) (number : ℕ) : Type 0 where
  pub model : Model
  pub is_there : slice_get models number ≡ Some model
  pub is_named : model_named models name ≡ Some model
  pub is_first : (k : ℕ) (earlier : Model) → k < number → slice_get models k ≡ Some earlier
      → is_model_named name earlier ≡ false

-- what a map keeps for a name
abbrev pub number_kept : BTreeMap (Bor (List ℕ)) ℕ → Name → Option ℕ
number_kept numbers name = get_by (λ k. slice_cmp nat_cmp name k.now) numbers

-- The map has the number of the first model of each name, if the models are numbered from this
-- number on.
abbrev pub HasNumbersFrom : BTreeMap (Bor (List ℕ)) ℕ → ℕ → List Model → Type 0
HasNumbersFrom numbers number models =
    (name : Name) → number_kept numbers name ≡ position_from (is_model_named name) number models
