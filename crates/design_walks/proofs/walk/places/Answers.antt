use Rattle.std.proofs.Common.{ap₂, ◌∙◌, List, [], ◌∷◌, ◌++◌, ◌≡◌, subst, sym, None}
use Rattle.netlist_meaning.specs.Places.{Place}
use Rattle.design_walks.specs.declared.placed.PlacedModel.{PlacedModel}
use Rattle.design_walks.specs.Places.{ArePlaces}
use Rattle.design_walks.proofs.walk.places.Goals as goal

pub list_places-requires-clause-to_come : goal.list_places-requires-clause-to_come
list_places-requires-clause-to_come c =
    let place : c.of.result ≡ [] = c.of.ensures ∙ c.new.ensures.items in
    c.in_ok-push.ensures.items ∙ ap₂ (λ (ps : List PlacedModel) (p : Place). ps ++ record { place = p; model = 0; parent = None } ∷ []) c.new-to_come.ensures.items place

pub returns : goal.returns
returns c = subst (λ (ps : List PlacedModel). ArePlaces c.args.design.now ps) (sym c.of-2.ensures) c.in_ok-list_places.ensures
