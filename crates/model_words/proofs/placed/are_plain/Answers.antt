use Rattle.std.proofs.Common.{◌≡◌, ◌<◌, ◌≤◌, ◌∙◌, ap, sym, subst, length, arith}
use Rattle.std.proofs.lemmas.List.{take_all}
use Rattle.std.proofs.lemmas.List.Elements.{All-more}
use Rattle.netlist_core.specs.declared.model.Model.{Model}
use Rattle.model_words.specs.Placed.{ArePlain}
use Rattle.model_words.proofs.placed.are_plain.Goals as goal

pub loop-model-preserved : goal.loop-model-preserved
loop-model-preserved c =
    let models = c.args.models.now in
    let i = c.loop-model.model-index in
    let model = c.model-item.result in
    let within : i < length models = omega arith in
    let none : length model.subckts ≡ 0 = omega arith in
    All-more (λ (m : Model). length m.subckts ≡ 0) models i model within c.loop-model.invariant (ap (λ (m : Model). length m.subckts) (sym c.model-item.is) ∙ none)

pub returns : goal.returns
returns c = λ yes.
    let past : length c.args.models.now ≤ c.loop-model.model-index = omega arith in
    subst ArePlain (take_all c.loop-model.model-index c.args.models.now past) c.loop-model.invariant
