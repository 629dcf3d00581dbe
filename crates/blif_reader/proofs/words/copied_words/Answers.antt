use Rattle.std.proofs.Common.{sym, ap, ◌∙◌, [], ◌∷◌, ◌++◌, take, arith}
use Rattle.std.proofs.lemmas.List.{take_more}
use Rattle.blif_reader.proofs.words.copied_words.Goals as goal

pub loop-word-preserved : goal.loop-word-preserved
loop-word-preserved c =
    let words = c.args.words.now in
    let i = c.loop-word.word-index in
    let word = c.word-item.result in
    let copy = c.in_ok-copied.field-0 in
    c.in_ok-push.ensures.items
    ∙ ap (λ copies. copies ++ copy ∷ []) c.loop-word.invariant
    ∙ ap (λ w. take i words ++ w ∷ []) (c.in_ok-copied.ensures ∙ c.as_slice.ensures ∙ c.word-item.is)
    ∙ sym (take_more words i word (omega arith))
