use Rattle.std.proofs.Common.{◌∙◌, sym, ap, ap₂, ◌++◌, [], ◌∷◌, get_or, arith}
use Rattle.netlist_core.specs.declared.model.Model.{Model}
use Rattle.model_index.specs.Numbers.{name_at}
use Rattle.model_index.proofs.Naming.{name_read}
use Rattle.model_circles.proofs.Words.{join_more}
use Rattle.model_circles.proofs.fault.joined_names.Goals as goal

pub loop-n-preserved : goal.loop-n-preserved
loop-n-preserved c =
    c.in_ok-extend_from_slice.ensures.items
    ∙ ap₂ (λ v w. v ++ w) (c.in_ok-push.ensures.items ∙ ap (λ v. v ++ 32 ∷ []) c.loop-n.invariant)
    (c.as_slice-in-loop-n.ensures ∙ ap (λ (m : Model). m.name) (sym c.index-models-n.is) ∙ name_read c.args.models.now (get_or c.args.others.now c.loop-n.n-index 0) c.index-models-n.result (c.requires.others c.loop-n.n-index 0 (omega arith)) c.index-models-n.is)
    ∙ sym (join_more (name_at c.args.models.now) c.args.first c.args.others.now c.loop-n.n-index (omega arith))
