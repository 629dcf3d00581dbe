use Rattle.std.proofs.Common.{◌≡◌, ◌+◌, ◌∷◌, [], ◌++◌, ◌∙◌, ℕ, List, ap₂, arith, sym}
use Rattle.std.proofs.lemmas.List.FromFn.{map-range_with_len_more}
use Rattle.streams.specs.Cuts.{with_context}
use Rattle.blifww_tool.proofs.probe.names_in_contexts.Goals as goal

pub loop-context-preserved : goal.loop-context-preserved
loop-context-preserved c =
    let context = c.loop-context.context in
    let next : 0 + context ≡ context = omega arith in
    c.in_ok-push.ensures.items
    ∙ ap₂ (λ (l : List (List ℕ)) (name : List ℕ). l ++ name ∷ []) c.loop-context.invariant (c.of.ensures ∙ c.in_ok-with_context.ensures)
    ∙ sym (map-range_with_len_more (λ k. with_context c.args.contexts k c.args.name.now) 0 context context next)
