use Rattle.std.proofs.Common.{◌≡◌, ◌+◌, ◌++◌, ◌∙◌, ℕ, List, ap, arith, flat_map, sym}
use Rattle.std.specs.List.{range_with_len}
use Rattle.streams.proofs.Ranges.{flat_map_more}
use Rattle.blifww_tool.specs.Driven.{names_in_context}
use Rattle.blifww_tool.proofs.driven.names_in_contexts.Goals as goal

pub loop-context-preserved : goal.loop-context-preserved
loop-context-preserved c =
    let names = names_in_context c.args.contexts c.args.ports.now in
    let context = c.loop-context.context in
    let next : 0 + context ≡ context = omega arith in
    c.in_ok-push_names.ensures
    ∙ ap (λ (l : List (List ℕ)). l ++ names context) c.loop-context.invariant
    ∙ sym (flat_map_more names 0 context ∙ ap (λ (n : ℕ). flat_map names (range_with_len 0 context) ++ names n) next)
