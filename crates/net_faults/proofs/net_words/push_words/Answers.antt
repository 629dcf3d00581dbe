use Rattle.std.proofs.Common.{sym, ap, ◌∙◌, [], ◌∷◌, ◌++◌, take, get_or, arith}
use Rattle.std.proofs.lemmas.List.{append_assoc, take_more}
use Rattle.net_faults.proofs.Passing.{no_word}
use Rattle.net_faults.proofs.net_words.push_words.Goals as goal

pub loop-word-preserved : goal.loop-word-preserved
loop-word-preserved c =
    let had = c.args.words.now.items in
    let more = c.args.more.now in
    let i = c.loop-word.word-index in
    let word = get_or more i no_word in
    c.in_ok-push.ensures.items
    ∙ ap (λ words. words ++ word ∷ []) c.loop-word.invariant
    ∙ append_assoc had (take i more) (word ∷ [])
    ∙ ap (λ words. had ++ words) (sym (take_more more i no_word (omega arith)))
