use Rattle.std.proofs.Common.{[], ◌∷◌, ◌++◌, ◌∙◌, ◌≡◌, ◌+◌, Bool, List, ap₂, arith, sym}
use Rattle.std.proofs.lemmas.List.FromFn.{map-range_with_len_more}
use Rattle.start_words.specs.Flats.{flat_start_bits}
use Rattle.start_words.proofs.starts.Starts.in_contexts.Goals as goal

pub loop-context-preserved : goal.loop-context-preserved
loop-context-preserved c = λ words are.
    let context = c.loop-context.context in
    let next : 0 + context ≡ context = omega arith in
    c.in_ok-push.ensures.items
    ∙ ap₂ (λ (starts : List (List Bool)) (bits : List Bool). starts ++ bits ∷ []) (c.loop-context.invariant words are) (c.in_ok-in_context.ensures words are)
    ∙ sym (map-range_with_len_more (flat_start_bits c.args.flat.now words) 0 context context next)
