use Rattle.std.proofs.Common.{sym, ◌∙◌, ap₂, ℕ, List, [], ◌∷◌, ◌++◌}
use Rattle.std.proofs.lemmas.List.{take_all, take_more}
use Rattle.netlist_flatten.proofs.copies.copied_rows.Goals as goal

pub loop-row-preserved : goal.loop-row-preserved
loop-row-preserved c =
    (c.in_ok-push.ensures {u = tt}).items
    ∙ ap₂ (λ (copies : List (List ℕ)) (row : List ℕ). copies ++ row ∷ []) c.loop-row.invariant (c.in_ok-copied.ensures {u = tt} ∙ c.as_slice.ensures ∙ c.row-item.is)
    ∙ sym (take_more c.args.rows.now c.loop-row.row-index c.row-item.result c.loop-row-test.true)

pub returns : goal.returns
returns c = c.of.ensures ∙ c.loop-row.invariant ∙ take_all c.loop-row.row-index c.args.rows.now c.loop-row-test.false
