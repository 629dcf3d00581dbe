use Rattle.std.proofs.Common.{◌∙◌, ap, Option, None, List, ℕ, [], ◌∷◌, ◌++◌}
use Rattle.std.proofs.lemmas.List.{replicate_more}
use Rattle.netlist_flatten.proofs.tables.no_names.Goals as goal

pub loop-preserved : goal.loop-preserved
loop-preserved c =
    (c.in_ok-push.ensures {u = tt}).items
    ∙ ap (λ (names : List (Option (List (List ℕ)))). names ++ None ∷ []) c.loop.invariant
    ∙ replicate_more c.loop.counter None
