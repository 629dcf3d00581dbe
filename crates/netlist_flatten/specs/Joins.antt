-- The line that leads to a place, and the nets that its pins join.
use Rattle.std.specs.Prelude.{ℕ, ◌≡◌, ◌+◌, ◌++◌, ◌∷◌, [], List, Some, slice_get, length, map}
use Rattle.std.specs.List.{range_with_len}
use Rattle.netlist_core.specs.declared.model.Design.{Design}
use Rattle.netlist_core.specs.declared.model.Model.{Model}
use Rattle.netlist_core.specs.declared.model.Subckt.{Subckt}
use Rattle.netlist_meaning.specs.Places.{model_at}
use Rattle.netlist_meaning.specs.InOrder.{nets_at}
use Rattle.netlist_flatten.specs.Numbered.{place_at, nets_before}

-- a line of the model at one place leads to the other
pub record IsLineTo (design : Design) (outer inner : ℕ) (line : Subckt) : Type 0 where
  pub model : Model
  pub number : ℕ
  pub has_model : model_at design (place_at design outer) ≡ Some model
  pub has_line : slice_get model.subckts number ≡ Some line
  pub is_deeper : place_at design inner ≡ place_at design outer ++ number ∷ []

-- the numbers of the nets at a place
abbrev pub own_numbers : Design → ℕ → List ℕ
own_numbers design k =
    map (λ j. length (nets_before design k) + j)
    (range_with_len 0 (length (nets_at design (place_at design k))))
