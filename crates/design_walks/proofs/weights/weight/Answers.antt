use Rattle.std.proofs.Common.{subst}
use Rattle.netlist_rules.proofs.Faultless.{no_model_is_in_itself}
use Rattle.model_index.specs.Reasons.{IsModelOrderRefusal, IsCircular}
use Rattle.design_walks.proofs.weights.weight.Goals as goal

pub unreachable-requires : goal.unreachable-requires
unreachable-requires c =
    let circular : IsCircular c.args.design.now.models = subst (λ r. IsModelOrderRefusal c.args.design.now.models r) c.in-Err-Circle.field-0-is c.in-Err-Circle.ensures.refused in
    no_model_is_in_itself c.args.design.now.models c.requires circular.0 circular.1 circular.2
