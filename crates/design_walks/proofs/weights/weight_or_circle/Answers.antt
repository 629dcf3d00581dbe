use Rattle.std.proofs.Common.{◌∙◌, sym, ap, subst, get_or, unwrap_or}
use Rattle.std.proofs.lemmas.Option.{unwrap_or-slice_get}
use Rattle.model_index.specs.Order.{IsModelOrder}
use Rattle.design_walks.proofs.Weighing.{main_weight}
use Rattle.design_walks.proofs.weights.weight_or_circle.Goals as goal

pub returns-clause-weight : goal.returns-clause-weight
returns-clause-weight c =
    let is_order : IsModelOrder c.args.design.now.models c.as_slice.result.now = subst (λ v. IsModelOrder c.args.design.now.models v) (sym c.as_slice.ensures) (subst (λ v. IsModelOrder v c.in_ok-order.order) c.as_slice-models.ensures c.in_ok-order.ensures.order) in
    c.unwrap_or.ensures ∙ ap (λ o. unwrap_or o 0) (c.copied.ensures ∙ c.first.ensures.value) ∙ unwrap_or-slice_get c.deref.result.now 0 0 ∙ ap (λ v. get_or v 0 0) c.deref.ensures.value
    ∙ main_weight c.args.design.now c.as_slice.result.now c.in_ok-weights.weights.items is_order c.in_ok-weights.ensures
