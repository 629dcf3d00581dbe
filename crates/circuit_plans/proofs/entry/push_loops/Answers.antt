use Rattle.std.proofs.Common.{sym, ◌∙◌, ap, ◌++◌, [], ◌∷◌, map, append_assoc, arith}
use Rattle.std.specs.List.{range_with_len}
use Rattle.std.proofs.lemmas.List.FromFn.{map-range_with_len_more}
use Rattle.cell_core.specs.declared.cells.Src.TheVariants.{Latch}
use Rattle.circuit_plans.proofs.entry.push_loops.Goals as goal

pub loop-number-preserved : goal.loop-number-preserved
loop-number-preserved c =
    c.in_ok-push.ensures.items
    ∙ ap (λ xs. xs ++ Latch c.loop-number.number ∷ []) c.loop-number.invariant
    ∙ append_assoc c.args.sources.now.items (map Latch (range_with_len 0 c.loop-number.number)) (Latch c.loop-number.number ∷ [])
    ∙ ap (λ xs. c.args.sources.now.items ++ xs) (sym (map-range_with_len_more Latch 0 c.loop-number.number c.loop-number.number (omega arith)))
