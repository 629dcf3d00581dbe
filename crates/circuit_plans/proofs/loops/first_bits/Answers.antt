use Rattle.std.proofs.Common.{sym, ◌∙◌, ap₂, ◌++◌, [], ◌∷◌, arith}
use Rattle.std.proofs.lemmas.List.FromFn.{map-range_with_len_more}
use Rattle.circuit_plans.specs.Circuits.{starts_with_one}
use Rattle.circuit_plans.proofs.loops.first_bits.Goals as goal

pub loop-number-preserved : goal.loop-number-preserved
loop-number-preserved c =
    c.in_ok-push.ensures.items
    ∙ ap₂ (λ xs x. xs ++ x ∷ []) c.loop-number.invariant c.starts_with_one.ensures
    ∙ sym (map-range_with_len_more (starts_with_one c.args.plan.now.starts.list c.args.plan.now.lanes c.args.plan.now.latches) 0 c.loop-number.number c.loop-number.number (omega arith))
