use Rattle.std.proofs.Common.{◌≡◌, ◌∙◌, refl, ap, get_or, length, ◌<◌, min, ◌+◌, ◌-◌, ◌^◌, sum_by, List, ℕ, arith}
use Rattle.std.proofs.lemmas.Option.{slice_get_read}
use Rattle.netlist_core.specs.declared.model.Model.{Model}
use Rattle.netlist_core.specs.OwnWeight.{own_weight}
use Rattle.design_walks.specs.Weights.{line_weight}
use Rattle.design_walks.proofs.Weighing.{weighed_more}
use Rattle.design_walks.proofs.weights.weights.Goals as goal

abbrev held : List Model → List ℕ → Model → ℕ
held models weights model = min (own_weight model + sum_by (line_weight models weights) model.subckts) (2 ^ 64 - 1)

pub loop-n-preserved : goal.loop-n-preserved
loop-n-preserved c =
    let models = c.args.design.now.models in
    let n = get_or c.args.order.now c.loop-n.n-index 0 in
    let less : n < length models = c.requires.order.numbers c.loop-n.n-index 0 (omega arith) in
    let is : c.index-models-n.result ≡ get_or models n c.index-models-n.result = c.index-models-n.is ∙ ap (λ (v : List Model). get_or v n c.index-models-n.result) c.as_slice-models.ensures in
    weighed_more c.args.design.now c.args.order.now c.loop-n.weights.items c.loop-n.n-index c.weight_at.result c.index-models-n.result c.requires.order c.loop-n.invariant (omega arith)
    (slice_get_read models (length models) n c.index-models-n.result refl less is)
    (c.weight_at.ensures
    ∙ ap (λ (v : List Model). held v c.deref.result.now c.index-models-n.result) c.requires.index
    ∙ ap (λ (v : List ℕ). held models v c.index-models-n.result) c.deref.ensures.value)
