use Rattle.std.proofs.Common.{sym, ◌∙◌, ap₂, ◌-◌, ◌++◌, [], ◌∷◌, arith}
use Rattle.std.proofs.lemmas.List.FromFn.{map-range_with_len_more}
use Rattle.circuit_plans.specs.Lifted.{source_on}
use Rattle.circuit_plans.proofs.leaving.sources_leaving.Goals as goal

pub loop-number-preserved : goal.loop-number-preserved
loop-number-preserved c =
    c.in_ok-push.ensures.items
    ∙ ap₂ (λ xs x. xs ++ x ∷ []) c.loop-number.invariant c.source_on.ensures
    ∙ sym (map-range_with_len_more (λ number. source_on c.args.sources.now (c.args.lanes - 1 - number)) 0 c.loop-number.number c.loop-number.number (omega arith))
