use Rattle.std.proofs.Common.{◌≡◌, ◌∙◌, ap, subst, sym, List, position, MatchOption, None}
use Rattle.netlist_core.specs.declared.model.Model.{Model}
use Rattle.netlist_core.specs.Names.{is_model_named, model_named}
use Rattle.model_index.specs.ByName.{IsNumberOf}
use Rattle.model_index.proofs.Numbered.{number_found, number_is}
use Rattle.model_index.proofs.named.NamedModels.find.Goals as goal

pub returns-clause-number : goal.returns-clause-number
returns-clause-number c =
    c.copied.ensures ∙ c.get.ensures.value ∙ number_is c.self.inside.numbers c.self.inside.models.now c.args.name.now c.self.invariant ∙ ap (λ (models : List Model). position (is_model_named c.args.name.now) models) c.self.view_is

pub returns-clause-found : goal.returns-clause-found
returns-clause-found c =
    subst (λ number. MatchOption number (model_named c.args.self.now c.args.name.now ≡ None) (IsNumberOf c.args.self.now c.args.name.now)) (sym (returns-clause-number c)) (number_found c.args.self.now c.args.name.now)
