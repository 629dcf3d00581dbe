-- The parents of places.
use Rattle.std.proofs.Common.{ℕ, ◌≡◌, ◌<◌, List, [], ◌∷◌, ◌++◌, Option, Some, None, slice_get, sym, ap, ◌∙◌, subst}
use Rattle.std.specs.Prelude.{MatchOption}
use Rattle.netlist_core.specs.declared.model.Design.{Design}
use Rattle.netlist_meaning.specs.Places.{Place}
use Rattle.design_walks.specs.declared.placed.PlacedModel.{PlacedModel}
use Rattle.design_walks.specs.declared.placed.Parent.{Parent}
use Rattle.design_walks.specs.Places.{ArePlaces, HasParent}
use Rattle.netlist_flatten.specs.Numbered.{place_at}
use Rattle.netlist_flatten.proofs.Numbering.{placed_at}

-- the parent of a place, by the numbers of both
pub parent_there : (design inside : Design) (placed : List PlacedModel) (k : ℕ) (at : PlacedModel) → inside ≡ design → ArePlaces inside placed → slice_get placed k ≡ Some at
    → (o : Option Parent) → MatchOption o (at.place ≡ []) (HasParent placed k at.place)
    → MatchOption o (place_at design k ≡ []) (λ (up : Parent). (up.number < k) × (place_at design k ≡ place_at design up.number ++ up.line ∷ []))
parent_there design inside placed k at same h e None is_main = subst (λ (d : Design). place_at d k ≡ []) same (sym (placed_at inside placed k at h e) ∙ is_main)
parent_there design inside placed k at same h e (Some up) p = (
  p.is_earlier,
  subst (λ (d : Design). place_at d k ≡ place_at d up.number ++ up.line ∷ []) same
      (sym (placed_at inside placed k at h e) ∙ p.is_inside ∙ ap (λ (place : Place). place ++ up.line ∷ []) (placed_at inside placed up.number p.outer h p.is_there)),
)
